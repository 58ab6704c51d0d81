use Rattle.std.proofs.Common.{◌≤◌, take}
use Rattle.lw_formula.specs.Validity.{Valid}
use Rattle.lw_pool.specs.Region.{Grows, IsAt}
use Rattle.lw_gen.specs.Families.{family_formula}
use Rattle.lw_gen.specs.Counts.{Sums, Scores, logics}
use Rattle.lw_gen.proofs.questions.count_in_logics.Given as goal

abbrev pub invariant-loop-logic : goal.invariant-loop-logic
invariant-loop-logic l =
    Grows l.fn.pool l.pool
    × IsAt l.pool (family_formula l.fn.which l.i) l.goal
    × Sums (λ logic. Scores (Valid logic (family_formula l.fn.which l.i))) (take l.logic-index logics) l.yes
    × (l.yes ≤ l.logic-index)
