use Rattle.lw_share.proofs.UnfoldedLines.{unfolded_is_proof}
use Rattle.lw_share.proofs.laws.unfolded_proves.Goals as goal

pub returns : goal.returns
returns c = unfolded_is_proof
