use Rattle.lw_pool.specs.Region.{Grows}
use Rattle.lw_value.specs.Views.{values_of}
use Rattle.lw_cases.specs.Values.{CanAllBeWritten}
use Rattle.lw_cases.proofs.values.all_made.Given as goal

abbrev pub invariant-values : goal.invariant-values
invariant-values l = CanAllBeWritten l.pool (values_of l.values.items) × Grows l.fn.pool l.pool
