use Rattle.lw_bisim.proofs.MadeQuotients.{some_class, joined_IsQuotient}
use Rattle.lw_bisim.proofs.quotient.smallest.Goals as goal

pub joined-requires-clause-some : goal.joined-requires-clause-some
joined-requires-clause-some c =
    some_class c.args.model.now c.in_ok-classes.ensures.well_formed c.in_ok-classes.classes.places.items c.in_ok-classes.classes.count c.in_ok-classes.ensures.classes

pub returns : goal.returns
returns c =
    joined_IsQuotient c.args.model.now c.in_ok-classes.ensures.well_formed c.in_ok-classes.classes.places.items c.in_ok-classes.classes.count c.in_ok-classes.ensures.classes
    c.in_ok-model.model c.in_ok-model.ensures.joined c.in_ok-model.ensures.well_formed
