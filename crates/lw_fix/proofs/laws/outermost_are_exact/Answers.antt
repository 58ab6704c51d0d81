use Rattle.lw_fix.proofs.OutermostFormulas.{outermost-Contains, outermost-AreDistinct}
use Rattle.lw_fix.proofs.laws.outermost_are_exact.Goals as goal

pub returns : goal.returns
returns c = λ p a. (outermost-AreDistinct p a, outermost-Contains p a)
