use Rattle.std.proofs.Common.{List}
use Rattle.lw_formula.specs.Formula.{Formula}
use Rattle.lw_value.specs.Values.{vals}
use Rattle.lw_value.specs.Views.{value_of}
use Rattle.lw_cases.specs.Values.{CanBeWritten, CanAllBeWritten}
use Rattle.lw_cases.proofs.values.many.Given as goal

abbrev pub invariant-copies : goal.invariant-copies
invariant-copies l = (ts : List Formula) → CanBeWritten ts (value_of l.value) → CanAllBeWritten ts (vals l.items)
