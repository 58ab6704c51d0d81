use Rattle.std.proofs.Common.{◌≡◌, take}
use Rattle.lw_model.proofs.ordered_rows.OrderedRows.try_clone.Given as goal

abbrev pub invariant-loop-row : goal.invariant-loop-row
invariant-loop-row g l = l.rows.items ≡ take l.row-index l.self-inside.rows.items
