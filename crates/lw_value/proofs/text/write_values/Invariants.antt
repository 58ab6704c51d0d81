use Rattle.std.proofs.Common.{[], take, codes}
use Rattle.lw_value.specs.Values.{seen_all}
use Rattle.lw_value.specs.Views.{values_of}
use Rattle.lw_value.specs.Private.TextsLeft.{Appends, AreBehind}
use Rattle.lw_value.proofs.text.write_values.Given as goal

-- so many values are written behind the first one
abbrev pub invariant-loop-value : goal.invariant-loop-value
invariant-loop-value l = Appends (AreBehind (codes " ") [] (seen_all l.fn.pool (values_of (take l.value-index l.others)))) l.initial.out.items l.out.items
