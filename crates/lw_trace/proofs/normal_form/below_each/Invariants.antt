use Rattle.std.proofs.Common.{◌≡◌, ◌+◌, length}
use Rattle.lw_pool.specs.Region.{Grows}
use Rattle.lw_trace.specs.Private.FormIds.{AreBelow}
use Rattle.lw_trace.proofs.normal_form.below_each.Given as goal

abbrev pub invariant-loop-at : goal.invariant-loop-at
invariant-loop-at l = record {
  below : AreBelow l.pool l.below.items;
  long : length l.below.items ≡ l.at + 1;
  grows : Grows l.fn.pool l.pool;
}
