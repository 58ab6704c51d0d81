use Rattle.std.proofs.Common.{length, ap, arith}
use Rattle.lw_pool.proofs.NodeFormulas.{length-trees}
use Rattle.lw_pool.proofs.pool.Pool.mark.Goals as goal

pub returns : goal.returns
returns c = omega (arith, c.len.ensures.len, length-trees c.self.inside.nodes.keys, ap length c.self.view_is)
