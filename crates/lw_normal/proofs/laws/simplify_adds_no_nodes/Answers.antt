use Rattle.lw_normal.proofs.SimplifiedFormulas.{nodes-simplify}
use Rattle.lw_normal.proofs.laws.simplify_adds_no_nodes.Goals as goal

pub returns : goal.returns
returns c = nodes-simplify
