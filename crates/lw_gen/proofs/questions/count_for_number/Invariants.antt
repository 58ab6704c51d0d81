use Rattle.std.proofs.Common.{◌≤◌, ◌*◌, take}
use Rattle.lw_pool.specs.Region.{Grows}
use Rattle.lw_gen.specs.Counts.{Sums, CountsLogics, families}
use Rattle.lw_gen.proofs.questions.count_for_number.Given as goal

abbrev pub invariant-loop-which : goal.invariant-loop-which
invariant-loop-which l = Grows l.fn.pool l.pool × Sums (CountsLogics l.i) (take l.which-index families) l.yes × (l.yes ≤ 6 * l.which-index)
