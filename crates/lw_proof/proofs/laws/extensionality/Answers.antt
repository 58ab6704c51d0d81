use Rattle.lw_proof.proofs.LargerSets.{equal_closed}
use Rattle.lw_proof.proofs.laws.extensionality.Goals as goal

pub returns : goal.returns
returns c = equal_closed
