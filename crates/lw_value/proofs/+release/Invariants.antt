use Rattle.std.proofs.Common.{◌*◌, ◌≤◌, map}
use Rattle.lw_value.specs.Values.{weight}
use Rattle.lw_value.specs.Views.{value_of}
use Rattle.lw_value.specs.Private.KeptWeight.{load}
use Rattle.lw_value.proofs.+release.Given as goal

-- what is left weighs no more than the list
abbrev pub invariant-value::Items::drop-loop-value : goal.invariant-value::Items::drop-loop-value
invariant-value::Items::drop-loop-value l = load (map value_of l.left.items) ≤ load l.fn.self

abbrev pub decreases-value::Items::drop-loop-value : goal.decreases-value::Items::drop-loop-value
decreases-value::Items::drop-loop-value l = load (map value_of l.left.items)

abbrev pub decreases-value::list::take_apart : goal.decreases-value::list::take_apart
decreases-value::list::take_apart c = 3 * weight (value_of c.value)
