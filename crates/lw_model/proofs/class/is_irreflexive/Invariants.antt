use Rattle.std.proofs.Common.{ℕ, ◌<◌}
use Rattle.lw_formula.specs.FiniteModel.{Sees}
use Rattle.lw_model.proofs.class.is_irreflexive.Given as goal

abbrev pub invariant-loop-world : goal.invariant-loop-world
invariant-loop-world l = (w : ℕ) → w < l.world → ¬ Sees l.model w w
