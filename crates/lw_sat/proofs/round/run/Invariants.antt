use Rattle.std.proofs.Common.{◌≡◌, ℕ, ◌≤◌, Bool}
use Rattle.lw_proof.specs.System.{Set}
use Rattle.lw_sat.specs.Moves.{Survives}
use Rattle.lw_sat.specs.SeedPath.{most_steps}
use Rattle.lw_sat.specs.Saturated.{room, IsAt}
use Rattle.lw_sat.proofs.round.run.Given as goal

abbrev pub invariant-loop-proof : goal.invariant-loop-proof
invariant-loop-proof l = record {
  at : (X : Set ℕ) (test : Set ℕ → Bool) → Survives l.closure test → IsAt l.closure X test l.initial.frames.items l.initial.board → IsAt l.closure X test l.frames.items l.board;
  bits : l.board.bits ≡ l.initial.board.bits;
  room : room l.board ≤ room l.initial.board;
  steps : most_steps l.frames.items ≤ most_steps l.initial.frames.items;
}

abbrev pub decreases-loop-proof : goal.decreases-loop-proof
decreases-loop-proof l = room l.board
