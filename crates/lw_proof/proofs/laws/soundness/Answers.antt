use Rattle.lw_proof.proofs.SoundRules.{proved_is_valid}
use Rattle.lw_proof.proofs.laws.soundness.Goals as goal

pub returns : goal.returns
returns c = proved_is_valid
