use Rattle.std.proofs.Common.{get_or, add-one, refl, inr, below_more, arith}
use Rattle.std.proofs.lemmas.List.Elements.{Contains-get_or}
use Rattle.lw_formula.specs.FiniteModel.{Sees}
use Rattle.lw_model.proofs.CoveredPairs.{places-pass}
use Rattle.lw_model.proofs.class.row_passes.Goals as goal

pub returns-then-not-passes-clause-needed : goal.returns-then-not-passes-clause-needed
returns-then-not-passes-clause-needed c =
    let ws = c.successors-to-items.result.now in
    let i = c.loop-to.to-index in
    let w = get_or ws i 0 in
    let seen : Sees c.args.model.now c.args.from w = (c.successors-to-items.ensures.exact w).0 (Contains-get_or ws i 0 c.loop-to-test.true) in
    λ h. c.if-not-passes.ensures.1 (inr (λ u s. h c.args.from w u seen s))

pub loop-to-preserved : goal.loop-to-preserved
loop-to-preserved c =
    let now = rw c.loop-to.invariant.0 at (c.if-not-passes.ensures.0 refl) in
    (rw add-one, below_more _ _ c.loop-to.invariant.1 now)

pub returns-clause-passes : goal.returns-clause-passes
returns-clause-passes c =
    let facts = c.successors-to-items.ensures in
    λ t. places-pass c.args.model.now c.args.from c.successors-to-items.result.now facts.ordered facts.exact (λ k l. c.loop-to.invariant.1 k (omega arith))
