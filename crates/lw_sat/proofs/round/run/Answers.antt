use Rattle.lw_sat.specs.Saturated.{every}
use Rattle.lw_sat.proofs.SaturationCourse.{every_survives}
use Rattle.lw_sat.proofs.round.run.Goals as goal

pub advance-requires : goal.advance-requires
advance-requires c = (c.requires.0, c.loop-proof.invariant.at c.requires.0 every (every_survives c.args.closure.now) c.requires.1)
