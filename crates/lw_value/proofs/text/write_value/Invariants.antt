use Rattle.lw_value.specs.Views.{value_of}
use Rattle.lw_value.specs.Private.TextsLeft.{Leads, parts_of, efforts}
use Rattle.lw_value.proofs.text.write_value.Given as goal

-- whatever is left makes the value's text with what was written
abbrev pub invariant-loop-work : goal.invariant-loop-work
invariant-loop-work l = Leads l.fn.pool (value_of l.fn.value) l.fn.out.items l.out.items (parts_of l.left.items)

abbrev pub decreases-loop-work : goal.decreases-loop-work
decreases-loop-work l = efforts (parts_of l.left.items)
