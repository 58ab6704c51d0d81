use Rattle.lw_gen.proofs.ValidFamilies.{loeb_of_gl}
use Rattle.lw_gen.proofs.laws.loeb_is_exact.Goals as goal

pub returns : goal.returns
returns c = loeb_of_gl
