use Rattle.lw_share.proofs.UnfoldedLines.{has_unfolding}
use Rattle.lw_share.proofs.laws.shared_proof_unfolds.Goals as goal

pub returns : goal.returns
returns c = has_unfolding
