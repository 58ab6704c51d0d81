use Rattle.lw_gen.proofs.ValidFamilies.{transitive_valid}
use Rattle.lw_gen.proofs.laws.transitive_is_exact.Goals as goal

pub returns : goal.returns
returns c = transitive_valid
