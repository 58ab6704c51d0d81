use Rattle.std.proofs.Common.{◌↔◌}
use Rattle.lw_value.specs.Evidence.{HasNoCertificate}
use Rattle.lw_value.specs.Views.{value_of}
use Rattle.lw_value.specs.Private.KeptWeight.{load}
use Rattle.lw_value.specs.Private.LengthsLeft.{values_under}
use Rattle.lw_value.specs.Private.Likeness.{HaveNoCertificate}
use Rattle.lw_value.proofs.equality.is_comparable.Given as goal

-- a certificate stands in the value exactly where one stands in what is left
abbrev pub invariant-loop-value : goal.invariant-loop-value
invariant-loop-value l = HaveNoCertificate (values_under l.left.items) ↔ HasNoCertificate (value_of l.fn.value)

abbrev pub decreases-loop-value : goal.decreases-loop-value
decreases-loop-value l = load (values_under l.left.items)
