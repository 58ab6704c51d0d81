use Rattle.std.proofs.Common.{◌<◌, subst, sym}
use Rattle.lw_formula.specs.FiniteModel.{FiniteModel}
use Rattle.lw_model.proofs.ModelAdditions.{IsWellFormed-facts, AddsFact-facts}
use Rattle.lw_model.proofs.model.Model.add_fact.Goals as goal

pub invariant_of-self : goal.invariant_of-self
invariant_of-self c =
    let old : FiniteModel = record { worlds = c.self.inside.worlds; pairs = c.self.inside.pairs; facts = c.self.inside.facts } in
    IsWellFormed-facts old c.args.world c.args.name.now c.add.new.self c.add.result c.self.invariant
    (subst (λ (m : FiniteModel). c.args.world < m.worlds) (sym c.self.view_is) c.requires)
    c.add.ensures.added c.add.ensures.distinct c.add.ensures.failed

pub returns-clause-added : goal.returns-clause-added
returns-clause-added c =
    let old : FiniteModel = record { worlds = c.self.inside.worlds; pairs = c.self.inside.pairs; facts = c.self.inside.facts } in
    rw (← c.self.view_is) (AddsFact-facts old c.args.world c.args.name.now c.add.new.self c.add.result c.add.ensures.added)
