use Rattle.std.proofs.Common.{◌≡◌, ℕ, ◌<◌, false, length, get_or}
use Rattle.std.specs.Bool.{Decides}
use Rattle.lw_formula.specs.FiniteModel.{HasFact}
use Rattle.lw_model.proofs.truth.letter_row.Given as goal

abbrev pub invariant-loop-world : goal.invariant-loop-world
invariant-loop-world l = (length l.row ≡ l.model.worlds) × ((w : ℕ) → w < l.world → Decides (get_or l.row w false) (HasFact l.model w l.name))
