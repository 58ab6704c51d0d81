use Rattle.lw_normal.proofs.SimplifiedFormulas.{simplify-IsTrueAt}
use Rattle.lw_normal.proofs.laws.simplify_keeps_truth.Goals as goal

pub returns : goal.returns
returns c = simplify-IsTrueAt
