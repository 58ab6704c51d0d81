use Rattle.lw_share.proofs.UnfoldedLines.{shared_valid}
use Rattle.lw_share.proofs.laws.shared_is_valid.Goals as goal

pub returns : goal.returns
returns c = shared_valid
