use Rattle.std.proofs.Common.{◌≡◌, ◌++◌, map, take}
use Rattle.lw_value.specs.Views.{value_of}
use Rattle.lw_value.specs.Private.LengthsLeft.{values_under}
use Rattle.lw_value.proofs.walk.push_items.Given as goal

-- so many items are put behind what was left
abbrev pub invariant-loop-item : goal.invariant-loop-item
invariant-loop-item l = values_under l.left.items ≡ values_under l.fn.left.items ++ map value_of (take l.item-index l.item-items)
