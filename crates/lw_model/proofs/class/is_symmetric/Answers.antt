use Rattle.std.proofs.Common.{◌<◌, below_more, refl, arith}
use Rattle.std.proofs.lemmas.Bool.{false≢true}
use Rattle.lw_model.proofs.class.is_symmetric.Goals as goal

pub returns-then-not-is_seen_back : goal.returns-then-not-is_seen_back
returns-then-not-is_seen_back c = (λ e. absurd (false≢true e), λ h. c.if-not-is_seen_back.ensures.1 (λ w s. h c.loop-world.world w s))

pub loop-world-preserved : goal.loop-world-preserved
loop-world-preserved c = below_more _ _ c.loop-world.invariant (c.if-not-is_seen_back.ensures.0 refl)

pub returns : goal.returns
returns c = (λ t v w s. let within : v < c.end_of_pairs-world-end.result = c.end_of_pairs-world-end.ensures v w s in c.loop-world.invariant v (omega arith) w s, λ h. refl)
