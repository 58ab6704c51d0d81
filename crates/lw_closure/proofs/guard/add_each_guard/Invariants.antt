use Rattle.std.proofs.Common.{◌≡◌, length}
use Rattle.lw_pool.specs.Region.{Grows}
use Rattle.lw_closure.specs.Private.GuardNumbers.{HasGuards}
use Rattle.lw_closure.proofs.guard.add_each_guard.Given as goal

abbrev pub invariant-loop-at : goal.invariant-loop-at
invariant-loop-at l = record {
  grows : Grows l.fn.pool l.pool;
  guards : HasGuards l.pool l.fn.forms.keys l.forms.keys l.guards.items;
  count : length l.guards.items ≡ l.at;
}
