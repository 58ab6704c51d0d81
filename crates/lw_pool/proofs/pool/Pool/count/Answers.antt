use Rattle.std.proofs.Common.{length, ap, arith}
use Rattle.lw_pool.proofs.NodeFormulas.{length-trees}
use Rattle.lw_pool.proofs.NodeInsertion.{region_operands}
use Rattle.lw_pool.proofs.pool.Pool.count.Goals as goal

pub returns-clause-count : goal.returns-clause-count
returns-clause-count c = omega (arith, c.len.ensures.len, length-trees c.self.inside.nodes.keys, ap length c.self.view_is)

pub returns-clause-operands : goal.returns-clause-operands
returns-clause-operands c = region_operands c.self.inside.nodes.keys c.args.self.now c.self.invariant c.self.view_is
