use Rattle.std.proofs.Common.{◌≡◌, ℕ, ◌<◌}
use Rattle.lw_model.proofs.CoveredPairs.{PassesAt, world_before}
use Rattle.lw_model.proofs.class.row_passes.Given as goal

abbrev pub invariant-loop-to : goal.invariant-loop-to
invariant-loop-to l = (l.before ≡ world_before l.to-items l.to-index) × ((k : ℕ) → k < l.to-index → PassesAt l.model l.from l.to-items k)
