use Rattle.std.proofs.Common.{ℕ, ◌<◌}
use Rattle.lw_formula.specs.FiniteModel.{Sees}
use Rattle.lw_model.proofs.class.is_serial.Given as goal

abbrev pub invariant-loop-world : goal.invariant-loop-world
invariant-loop-world l = (v : ℕ) → v < l.world → (w : ℕ) × Sees l.model v w
