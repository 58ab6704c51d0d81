use Rattle.std.proofs.Common.{◌≡◌, ℕ, ◌<◌, false, length, get_or}
use Rattle.lw_model.specs.Private.TruthTable.{truth_table}
use Rattle.lw_model.proofs.truth.joined_row.Given as goal

abbrev pub invariant-loop-world : goal.invariant-loop-world
invariant-loop-world l = (length l.row ≡ l.model.worlds) × ((w : ℕ) → w < l.world → get_or l.row w false ≡ truth_table l.connective (get_or l.left w false) (get_or l.right w false))
