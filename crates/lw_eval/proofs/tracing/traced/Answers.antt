use Rattle.lw_pool.specs.Region.{tree_at}
use Rattle.lw_eval.proofs.TracesGiven.{trace_gives, trace_live, untraced_faults}
use Rattle.lw_eval.proofs.tracing.traced.Goals as goal

pub returns-in_ok-trace_items-in-Ok-clause-value : goal.returns-in_ok-trace_items-in-Ok-clause-value
returns-in_ok-trace_items-in-Ok-clause-value c =
    trace_gives (tree_at c.args.pool.now c.args.id) c.args.pool.now c.in-Ok.trace c.in_ok-trace_items-in-Ok.field-0 c.list_of.result c.in-Ok.ensures.trace
    c.in-Ok.ensures.allowed.0 c.in-Ok.ensures.allowed.1 c.in_ok-trace_items-in-Ok.ensures (c.list_of.ensures.value c.args.pool.now)

pub returns-in_ok-trace_items-in-Ok-clause-live : goal.returns-in_ok-trace_items-in-Ok-clause-live
returns-in_ok-trace_items-in-Ok-clause-live c =
    c.list_of.ensures.live c.args.pool.now
    (trace_live c.args.pool.now c.in-Ok.trace.rest c.in-Ok.trace.heights c.in_ok-trace_items-in-Ok.field-0 c.in_ok-trace_items-in-Ok.ensures)

pub returns-in-Err-clause-value : goal.returns-in-Err-clause-value
returns-in-Err-clause-value c =
    untraced_faults (tree_at c.args.pool.now c.args.id) _ c.untraced.result (c.untraced.ensures (tree_at c.args.pool.now c.args.id) c.in-Err.ensures.refused)
