use Rattle.std.proofs.Common.{◌≡◌, ◌+◌, ◌≤◌}
use Rattle.lw_value.specs.Values.{seen}
use Rattle.lw_value.specs.ValueTexts.{measure_of}
use Rattle.lw_value.specs.Views.{value_of}
use Rattle.lw_value.specs.Private.KeptWeight.{load}
use Rattle.lw_value.specs.Private.LengthsLeft.{values_under, length_left, AreAllLive}
use Rattle.lw_value.proofs.length.measured.Given as goal

-- what is counted and what is left make up the whole length
abbrev pub invariant-loop-value : goal.invariant-loop-value
invariant-loop-value l = (AreAllLive l.fn.pool (values_under l.left.items)) × (l.total ≤ 1048576) × (l.total + length_left l.fn.pool (values_under l.left.items) ≡ measure_of (seen l.fn.pool (value_of l.fn.value)))

abbrev pub decreases-loop-value : goal.decreases-loop-value
decreases-loop-value l = load (values_under l.left.items)
