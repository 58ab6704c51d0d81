use Rattle.std.proofs.Common.{◌≡◌, ℕ, ◌<◌, false, not, length, get_or}
use Rattle.lw_model.proofs.truth.negated_row.Given as goal

abbrev pub invariant-loop-world : goal.invariant-loop-world
invariant-loop-world l = (length l.row ≡ l.model.worlds) × ((w : ℕ) → w < l.world → get_or l.row w false ≡ not (get_or l.of w false))
