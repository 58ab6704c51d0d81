use Rattle.std.proofs.Common.{◌<◌, below_more, refl, arith}
use Rattle.std.proofs.lemmas.Bool.{false≢true}
use Rattle.lw_model.proofs.CoveredPairs.{IsTransitive-passes}
use Rattle.lw_model.proofs.class.is_transitive.Goals as goal

pub returns-then-not-row_passes : goal.returns-then-not-row_passes
returns-then-not-row_passes c = (λ e. absurd (false≢true e), λ h. c.if-not-row_passes.ensures.needed h)

pub loop-world-preserved : goal.loop-world-preserved
loop-world-preserved c = below_more _ _ c.loop-world.invariant (c.if-not-row_passes.ensures.passes refl)

pub returns : goal.returns
returns c =
    let end = c.end_of_pairs-world-end.ensures in (
      λ t. IsTransitive-passes c.args.model.now c.end_of_pairs-world-end.result end
          (λ v w s. let within : v < c.end_of_pairs-world-end.result = end v w s in c.loop-world.invariant v (omega arith) w s),
      λ h. refl,
    )
