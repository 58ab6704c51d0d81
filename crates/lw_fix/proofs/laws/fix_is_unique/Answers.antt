use Rattle.lw_fix.proofs.FixedPoints.{fix-unique}
use Rattle.lw_fix.proofs.laws.fix_is_unique.Goals as goal

pub returns : goal.returns
returns c = fix-unique
