use Rattle.lw_proof.proofs.LargerSets.{larger_closed}
use Rattle.lw_proof.proofs.laws.weakening.Goals as goal

pub returns : goal.returns
returns c = larger_closed
