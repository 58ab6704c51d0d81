use Rattle.lw_formula.specs.declared.sign.Sign.TheVariants.{T}
use Rattle.lw_normal.proofs.NormalFormTruth.{nnf_under-Nnf}
use Rattle.lw_normal.proofs.laws.nnf_is_nnf.Goals as goal

pub returns : goal.returns
returns c = nnf_under-Nnf T
