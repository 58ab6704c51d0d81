use Rattle.lw_fix.proofs.FixedPoints.{fix-IsFixedPoint}
use Rattle.lw_fix.proofs.laws.fix_is_fixed_point.Goals as goal

pub returns : goal.returns
returns c = fix-IsFixedPoint
