use Rattle.std.proofs.Common.{below_more, refl}
use Rattle.lw_model.proofs.class.is_serial.Goals as goal

pub loop-world-preserved : goal.loop-world-preserved
loop-world-preserved c = below_more _ _ c.loop-world.invariant (c.if-not-sees_any.ensures.0 refl)
