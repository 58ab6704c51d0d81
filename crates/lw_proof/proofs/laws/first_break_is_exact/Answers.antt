use Rattle.lw_proof.proofs.FirstBreaks.{break_is_exact}
use Rattle.lw_proof.proofs.laws.first_break_is_exact.Goals as goal

pub returns : goal.returns
returns c = break_is_exact
