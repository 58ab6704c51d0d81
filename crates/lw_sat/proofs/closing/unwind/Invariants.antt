use Rattle.std.proofs.Common.{◌≡◌, ℕ, ◌≤◌, max, Bool, length}
use Rattle.lw_proof.specs.Lean.{steps}
use Rattle.lw_proof.specs.System.{Set}
use Rattle.lw_sat.specs.SeedPath.{most_steps, room_below, spot_of}
use Rattle.lw_sat.specs.Saturated.{IsClosing}
use Rattle.lw_sat.proofs.closing.unwind.Given as goal

abbrev pub invariant-loop-frame : goal.invariant-loop-frame
invariant-loop-frame l = record {
  closing : (X : Set ℕ) (test : Set ℕ → Bool) → IsClosing l.closure X test l.initial.frames.items l.initial.board l.initial.proof → IsClosing l.closure X test l.frames.items l.board l.proof;
  bits : l.board.bits ≡ l.initial.board.bits;
  room : room_below l.board.bits (spot_of l.board) ≤ room_below l.initial.board.bits (spot_of l.initial.board);
  steps : max (most_steps l.frames.items) (steps l.proof) ≤ max (most_steps l.initial.frames.items) (steps l.initial.proof);
}

abbrev pub decreases-loop-frame : goal.decreases-loop-frame
decreases-loop-frame l = length l.frames.items
