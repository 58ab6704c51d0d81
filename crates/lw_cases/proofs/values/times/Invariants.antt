use Rattle.std.proofs.Common.{List}
use Rattle.lw_formula.specs.Formula.{Formula}
use Rattle.lw_value.specs.Views.{value_of}
use Rattle.lw_cases.specs.Values.{CanBeWritten}
use Rattle.lw_cases.proofs.values.times.Given as goal

abbrev pub invariant-times : goal.invariant-times
invariant-times l = (ts : List Formula) → CanBeWritten ts (value_of l.initial.value) → CanBeWritten ts (value_of l.value)
