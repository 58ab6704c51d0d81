use Rattle.std.proofs.Common.{◌≡◌, ℕ, ◌<◌, false, get_or}
use Rattle.lw_model.proofs.truth.is_true_at_some.Given as goal

abbrev pub invariant-loop-world : goal.invariant-loop-world
invariant-loop-world l = (k : ℕ) → k < l.world-index → get_or l.of (get_or l.worlds k 0) false ≡ false
