use Rattle.lw_model.proofs.RowsEndToEnd.{IsGrown-push}
use Rattle.lw_model.proofs.ordered_rows.grow.Goals as goal

pub loop-alloc-preserved : goal.loop-alloc-preserved
loop-alloc-preserved g c = rw (c.in_ok-push.ensures.items, c.new.ensures) (IsGrown-push c.args.rows.now.items c.loop-alloc.rows.items c.loop-alloc.invariant)
