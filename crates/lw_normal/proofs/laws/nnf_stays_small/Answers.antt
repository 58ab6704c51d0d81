use Rattle.lw_normal.proofs.NormalSubformulas.{subformula_count-nnf}
use Rattle.lw_normal.proofs.laws.nnf_stays_small.Goals as goal

pub returns : goal.returns
returns c = subformula_count-nnf
