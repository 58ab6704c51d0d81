use Rattle.std.proofs.Common.{◌≡◌, map, take}
use Rattle.lw_value.specs.Views.{value_of}
use Rattle.lw_value.proofs.value.list.copied.Given as goal

-- so many values are copied
abbrev pub invariant-loop-value : goal.invariant-loop-value
invariant-loop-value l = map value_of l.copy.items ≡ map value_of (take l.value-index l.values)
