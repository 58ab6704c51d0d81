use Rattle.lw_pool.proofs.NodeInsertion.{region_operands}
use Rattle.lw_pool.proofs.pool.Pool.allocator.Goals as goal

pub returns-clause-operands : goal.returns-clause-operands
returns-clause-operands c = region_operands c.self.inside.nodes.keys c.args.self.now c.self.invariant c.self.view_is
