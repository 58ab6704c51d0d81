use Rattle.std.proofs.Common.{◌≡◌, ℕ, ◌<◌, false, length, get_or, IsTrue}
use Rattle.std.specs.Bool.{Decides}
use Rattle.lw_formula.specs.FiniteModel.{Sees}
use Rattle.lw_model.proofs.truth.box_row.Given as goal

abbrev pub invariant-loop-world : goal.invariant-loop-world
invariant-loop-world l = (length l.row ≡ l.model.worlds) × ((w : ℕ) → w < l.world → Decides (get_or l.row w false) ((v : ℕ) → Sees l.model w v → IsTrue (get_or l.of v false)))
