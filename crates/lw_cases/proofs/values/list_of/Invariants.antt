use Rattle.std.proofs.Common.{List}
use Rattle.lw_formula.specs.Formula.{Formula}
use Rattle.lw_value.specs.Values.{vals}
use Rattle.lw_value.specs.Views.{values_of}
use Rattle.lw_cases.specs.Values.{CanAllBeWritten}
use Rattle.lw_cases.proofs.values.list_of.Given as goal

abbrev pub invariant-values : goal.invariant-values
invariant-values l = (ts : List Formula) → CanAllBeWritten ts (values_of l.values) → CanAllBeWritten ts (vals l.items)
