use Rattle.lw_gen.proofs.ValidFamilies.{reflexive_valid}
use Rattle.lw_gen.proofs.laws.reflexive_is_exact.Goals as goal

pub returns : goal.returns
returns c = reflexive_valid
