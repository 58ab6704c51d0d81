use Rattle.std.proofs.Common.{◌<◌, below_more, refl, arith}
use Rattle.std.proofs.lemmas.Bool.{false≢true}
use Rattle.lw_model.proofs.class.is_irreflexive.Goals as goal

pub returns-then-sees : goal.returns-then-sees
returns-then-sees c = (λ e. absurd (false≢true e), λ h. absurd (h c.loop-world.world (c.if-sees.ensures.0 refl)))

pub loop-world-preserved : goal.loop-world-preserved
loop-world-preserved c = below_more _ _ c.loop-world.invariant (λ s. false≢true (c.if-sees.ensures.1 s))

pub returns : goal.returns
returns c = (λ t w s. let within : w < c.end_of_pairs-world-end.result = c.end_of_pairs-world-end.ensures w w s in c.loop-world.invariant w (omega arith) s, λ h. refl)
