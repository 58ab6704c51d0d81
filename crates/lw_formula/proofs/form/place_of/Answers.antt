use Rattle.lw_formula.proofs.ByteOrder.{found, absent}
use Rattle.lw_formula.proofs.form.place_of.Goals as goal

pub returns-clause-found : goal.returns-clause-found
returns-clause-found c =
    let facts = c.binary_search.ensures in
    found c.args.names.now c.args.name.now c.binary_search.result facts.bound facts.position

pub returns-clause-absent : goal.returns-clause-absent
returns-clause-absent c =
    let facts = c.binary_search.ensures in
    absent c.args.names.now c.args.name.now c.binary_search.result c.requires facts.bound facts.position
