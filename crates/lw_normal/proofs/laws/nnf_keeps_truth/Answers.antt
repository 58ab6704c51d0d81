use Rattle.lw_normal.proofs.NormalFormTruth.{nnf-IsTrueAt}
use Rattle.lw_normal.proofs.laws.nnf_keeps_truth.Goals as goal

pub returns : goal.returns
returns c = nnf-IsTrueAt
