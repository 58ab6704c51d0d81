use Rattle.std.proofs.Common.{arith}
use Rattle.lw_counter.proofs.EdgeSquares.{children_end}
use Rattle.lw_counter.proofs.close.add_children.Goals as goal

pub returns : goal.returns
returns c = children_end c.args.fragment.now c.args.relation.now c.loop-child.relation c.loop-child.child c.loop-child.invariant.set (omega arith)
