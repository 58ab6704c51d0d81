-- The course of a saturation: from a seed to unclosed labels, or to a proof that closes it.
use Rattle.std.specs.Prelude.{ℕ, Bool, true, IsTrue, Option, Some, None, List}
use Rattle.lw_pool.specs.declared.id.SignedId.{SignedId}
use Rattle.lw_proof.specs.System.{Set}
use Rattle.lw_proof.specs.Tree.{Tree}
use Rattle.lw_proof.specs.Lean.{steps}
use Rattle.lw_closure.specs.Table.{Table}
use Rattle.lw_sat.specs.declared.board.Board.{Board}
use Rattle.lw_sat.specs.declared.frame.Frame.{Frame}
use Rattle.lw_sat.specs.Sets.{top, IsOfItems}
use Rattle.lw_sat.specs.SeedPath.{Spot, root, spot_of, Chain, IsClosedAt, IsWide, most_steps, room_at}

-- the frames lead from the seed X to the label, and the test holds of it and of all that waits
pub record IsAt (t : Table) (X : Set ℕ) (test : Set ℕ → Bool) (frames : List Frame) (b : Board) : Type 0 where
  pub wide : IsWide t b
  pub seed : IsOfItems t X
  pub leads : Chain t test (root X) frames (spot_of b)
  pub passes : IsTrue (test (top b.labels))

-- the frames lead from the seed X to a spot that the proof closes
pub record IsClosing (t : Table) (X : Set ℕ) (test : Set ℕ → Bool) (frames : List Frame) (b : Board) (p : Tree SignedId) : Type 0 where
  pub wide : IsWide t b
  pub seed : IsOfItems t X
  pub spot : Spot
  pub leads : Chain t test (root X) frames spot
  pub closed : IsClosedAt t spot b p

-- what a fold of all frames comes to: a label under work, or a proof that closes the seed by items that the board has
abbrev pub FoldsAll : Table → Set ℕ → (Set ℕ → Bool) → List Frame → Board → Option (Tree SignedId) → Type 0
FoldsAll t X test frames b None = IsAt t X test frames b
FoldsAll t X test frames b (Some p) = IsClosedAt t (root X) b p

-- that comes of frames that lead, from whatever seed and by whatever test, to what the proof closes
abbrev pub Unwinds : Table → List Frame → Board → Tree SignedId → List Frame → Board → Option (Tree SignedId) → Type 0
Unwinds t old b proof new c found = (X : Set ℕ) (test : Set ℕ → Bool) → IsClosing t X test old b proof → FoldsAll t X test new c found

-- the test of every set
abbrev pub every : Set ℕ → Bool
every X = true

-- the greatest number of Steps on a path of a proof that is held
abbrev pub fold_steps : List Frame → Option (Tree SignedId) → ℕ
fold_steps frames None = most_steps frames
fold_steps frames (Some p) = steps p

-- what is left to do at a board
abbrev pub room : Board → ℕ
room b = room_at b.bits (spot_of b)
