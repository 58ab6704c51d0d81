use Rattle.lw_fix.proofs.ConstructedFormulas.{fix-unfolded}
use Rattle.lw_fix.proofs.laws.fix_unfolds.Goals as goal

pub returns : goal.returns
returns c = fix-unfolded
