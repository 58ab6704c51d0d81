use Rattle.std.proofs.Common.{[], ap, subst, ◌∙◌}
use Rattle.lw_counter.specs.Private.BuiltRelation.{Joins, AddsPairs}
use Rattle.lw_counter.proofs.GrownModels.{made}
use Rattle.lw_counter.proofs.fragment.Fragment.close.Goals as goal

pub returns : goal.returns
returns c =
    let start = c.in_ok-model.ensures ∙ ap (λ n. record { worlds = n; pairs = []; facts = [] }) c.count.ensures.count in
    made c.args.pool.now c.args.closure.now c.args.logic c.args.self.now c.in_ok-relation.relation c.add_pairs.new.model c.add_facts.new.model
    c.in_ok-relation.ensures
    (subst (λ m. AddsPairs m c.add_pairs.new.model (Joins c.in_ok-relation.relation)) start c.in_ok-add_pairs.ensures)
    c.in_ok-add_facts.ensures.added c.in_ok-add_facts.ensures.well_formed
