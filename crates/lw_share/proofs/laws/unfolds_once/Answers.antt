use Rattle.lw_share.proofs.UnfoldedLines.{one_unfolding}
use Rattle.lw_share.proofs.laws.unfolds_once.Goals as goal

pub returns : goal.returns
returns c = one_unfolding
