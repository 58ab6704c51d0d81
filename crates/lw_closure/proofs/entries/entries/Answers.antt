use Rattle.std.proofs.Common.{arith}
use Rattle.lw_closure.proofs.OperandItems.{entries_more}
use Rattle.lw_closure.proofs.entries.entries.Goals as goal

pub loop-item-preserved : goal.loop-item-preserved
loop-item-preserved c = record {
  entries =
      entries_more c.args.pool.now c.args.forms.now.keys c.args.guards.now c.loop-item.entries.items c.push.new.self.items c.entry.result c.loop-item.item
      c.loop-item.invariant.entries c.loop-item.invariant.count c.entry.ensures c.in_ok-push.ensures.items;
  count = omega (arith, c.in_ok-push.ensures.len, c.loop-item.invariant.count);
}
