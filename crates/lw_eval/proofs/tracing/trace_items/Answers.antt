use Rattle.std.proofs.Common.{rules}
use Rattle.lw_eval.proofs.TracesGiven.{next_height, all_heights}
use Rattle.lw_eval.proofs.tracing.trace_items.Goals as goal

pub loop-height-init : goal.loop-height-init
loop-height-init c = search rules

pub loop-height-preserved : goal.loop-height-preserved
loop-height-preserved c =
    next_height c.args.trace.now.rest c.heights-height-items.result.now c.loop-height.height-index c.loop-height.items c.push-in-loop-height.new.self
    c.loop-height-test.true c.loop-height.invariant c.in_ok-push-2.ensures.pushed

pub returns : goal.returns
returns c =
    all_heights c.args.trace.now.rest c.heights-height-items.result.now c.args.trace.now.heights c.loop-height.height-index c.loop-height.items
    c.loop-height-test.false c.heights-height-items.ensures c.loop-height.invariant
