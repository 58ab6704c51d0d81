use Rattle.std.proofs.Common.{◌≤◌, ◌*◌}
use Rattle.lw_pool.specs.Region.{Grows}
use Rattle.lw_gen.specs.Counts.{Sums, CountsValid, numbers_to}
use Rattle.lw_gen.proofs.questions.summary.Given as goal

abbrev pub invariant-loop-i : goal.invariant-loop-i
invariant-loop-i l = Grows l.fn.pool l.pool × Sums CountsValid (numbers_to l.i) l.yes × (l.yes ≤ 24 * l.i)
