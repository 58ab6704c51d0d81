use Rattle.std.proofs.Common.{◌+◌, ◌-◌, length}
use Rattle.lw_model.specs.Private.OrderedRows.{IsGrown}
use Rattle.lw_model.proofs.ordered_rows.grow.Given as goal

abbrev pub invariant-loop-alloc : goal.invariant-loop-alloc
invariant-loop-alloc g l = IsGrown l.fn.rows.items l.rows.items

abbrev pub decreases-loop-alloc : goal.decreases-loop-alloc
decreases-loop-alloc g l = l.at + 1 - length l.rows.items
