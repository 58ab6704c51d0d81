use Rattle.std.proofs.Common.{ℕ, ◌<◌, false, get_or, IsTrue}
use Rattle.lw_model.proofs.truth.is_true_at_all.Given as goal

abbrev pub invariant-loop-world : goal.invariant-loop-world
invariant-loop-world l = (k : ℕ) → k < l.world-index → IsTrue (get_or l.of (get_or l.worlds k 0) false)
