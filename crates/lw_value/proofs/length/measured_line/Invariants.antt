use Rattle.std.proofs.Common.{◌≡◌, ◌+◌, ◌-◌, length, min, take}
use Rattle.lw_value.specs.Values.{seen_all}
use Rattle.lw_value.specs.ValueTexts.{total_of}
use Rattle.lw_value.specs.Views.{values_of}
use Rattle.lw_value.proofs.length.measured_line.Given as goal

-- so many values are counted, with all the spaces
abbrev pub invariant-loop-value : goal.invariant-loop-value
invariant-loop-value l = min l.total 1048577 ≡ min (total_of (seen_all l.fn.pool (values_of (take l.value-index l.values))) + (length l.values - 1)) 1048577
