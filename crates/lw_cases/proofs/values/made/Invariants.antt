use Rattle.lw_value.specs.Views.{value_of}
use Rattle.lw_cases.specs.Values.{CanBeWritten}
use Rattle.lw_cases.proofs.values.made.Given as goal

abbrev pub invariant-parts : goal.invariant-parts
invariant-parts l = CanBeWritten l.pool (value_of l.value)
