use Rattle.std.proofs.Common.{reverse}
use Rattle.lw_cert.proofs.PreOrder.{taken-step}
use Rattle.lw_cert.proofs.build.taken.Goals as goal

pub loop-preserved : goal.loop-preserved
loop-preserved c =
    taken-step c.loop.counter (reverse c.args.proofs.now.items) c.loop.subs.items c.shift.new.to.items (reverse c.loop.proofs.items) (reverse c.shift.new.from.items)
    c.loop.invariant.0 c.loop.invariant.1 c.in_ok-shift.ensures.to c.in_ok-shift.ensures.from
