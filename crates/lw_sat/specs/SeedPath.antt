-- The path from the seed to the label that is under work.
use Rattle.std.specs.Prelude.{◌≡◌, ℕ, ◌+◌, ◌*◌, ◌≤◌, ◌<◌, max, Bool, IsTrue, List, [], ◌∷◌, ◌++◌}
use Rattle.lw_pool.specs.declared.id.SignedId.{SignedId}
use Rattle.lw_proof.specs.System.{Set}
use Rattle.lw_proof.specs.Tree.{Tree}
use Rattle.lw_proof.specs.Lean.{steps}
use Rattle.lw_closure.specs.Table.{Table, item_count}
use Rattle.lw_sat.specs.declared.board.Board.{Board}
use Rattle.lw_sat.specs.declared.frame.Frame.{Frame}
use Rattle.lw_sat.specs.declared.frame.Frame.TheVariants.{Alone, First, Second}
use Rattle.lw_sat.specs.declared.frame.Folded.{Folded}
use Rattle.lw_sat.specs.declared.frame.Folded.TheVariants.{Closed, Turned}
use Rattle.lw_sat.specs.Sets.{adding, top, lower, sets, weight, weights}
use Rattle.lw_sat.specs.Moves.{listed, Moves}
use Rattle.lw_sat.specs.Closing.{Rests}

-- a point of the path: the set that is to be closed there, the sets of the branch points before it, and the used items of the branches that
-- are closed
pub record Spot : Type 0 where
  pub set : Set ℕ
  pub below : List (Set ℕ)
  pub kept : List (Set ℕ)

-- where the path begins
abbrev pub root : Set ℕ → Spot
root X = record { set = X; below = []; kept = [] }

-- the board stands at this spot
abbrev pub spot_of : Board → Spot
spot_of b = record { set = top b.labels; below = lower b.labels; kept = sets b.used }

-- the board stands at the spot a now, with rows as long as before
pub record Becomes (old new : Board) (a : Spot) : Type 0 where
  pub spot : spot_of new ≡ a
  pub bits : new.bits ≡ old.bits

-- the label is a branch point now, and a copy of it is under work
abbrev pub IsForked : Board → Board → Type 0
IsForked old new = Becomes old new (record (spot_of old) { below = lower old.labels ++ top old.labels ∷ [] })

-- the last branch point is the label again
abbrev pub GoesBack : Board → Board → Type 0
GoesBack old new = (Xs : List (Set ℕ)) (X : Set ℕ) → lower old.labels ≡ Xs ++ X ∷ [] → Becomes old new (record (spot_of old) { set = X; below = Xs })

-- what is in the label is kept as the used items of one more closed branch
abbrev pub KeepsUsed : Board → Board → Type 0
KeepsUsed old new = Becomes old new (record (spot_of old) { kept = sets old.used ++ top old.labels ∷ [] })

-- the used items of the last closed branch are kept no longer: of these, U, the label is made
abbrev pub TakesKept : Board → Board → (Set ℕ → Set ℕ) → Type 0
TakesKept old new made =
    (Us : List (Set ℕ)) (U : Set ℕ) → sets old.used ≡ Us ++ U ∷ [] → Becomes old new (record (spot_of old) { set = made U; kept = Us })

-- each item has a bit
abbrev pub IsWide : Table → Board → Type 0
IsWide t b = item_count t ≤ b.bits

-- the frame leads from the spot a to the spot b. At a branch point the test holds of the side that waits
abbrev pub Link : Table → (Set ℕ → Bool) → Spot → Frame → Spot → Type 0
Link t test a (Alone rule item s) b = Moves t a.set rule item (listed s ∷ []) × (b ≡ record a { set = adding (listed s) a.set })
Link t test a (First rule item p q) b =
    Moves t a.set rule item (listed p ∷ listed q ∷ []) × IsTrue (test (adding (listed q) a.set))
    × (b ≡ record a { set = adding (listed p) a.set; below = a.below ++ a.set ∷ [] })
Link t test a (Second rule item p q proof) b =
    Moves t a.set rule item (listed p ∷ listed q ∷ [])
    × ((U : Set ℕ) × Rests t U (adding (listed p) a.set) proof × (b ≡ record a { set = adding (listed q) a.set; kept = a.kept ++ U ∷ [] }))

-- the frames lead from a to b
abbrev pub Chain : Table → (Set ℕ → Bool) → Spot → List Frame → Spot → Type 0
Chain t test a [] c = a ≡ c
Chain t test a (f ∷ fs) c = (b : Spot) × Link t test a f b × Chain t test b fs c

-- the greatest number of Steps on a path of a proof that a frame holds
abbrev pub held_steps : Frame → ℕ
held_steps (Second rule item p q proof) = steps proof
held_steps _ = 0

abbrev pub most_steps : List Frame → ℕ
most_steps [] = 0
most_steps (f ∷ fs) = max (held_steps f) (most_steps fs)

-- what is left to do: at the label under work, and at the branch points before it
abbrev pub room_below : ℕ → Spot → ℕ
room_below n a = weights n a.below

abbrev pub room_at : ℕ → Spot → ℕ
room_at n a = room_below n a + 2 * weight a.set n

-- the board has the used items of a proof that closes the set of the spot
pub record IsClosedAt (t : Table) (a : Spot) (b : Board) (p : Tree SignedId) : Type 0 where
  pub below : lower b.labels ≡ a.below
  pub kept : sets b.used ≡ a.kept
  pub rests : Rests t (top b.labels) a.set p

-- the frame leads to a spot that the proof closes
abbrev pub ClosesAbove : Table → Frame → Board → Tree SignedId → Type 0
ClosesAbove t frame board proof = (test : Set ℕ → Bool) × (a : Spot) × (b : Spot) × Link t test a frame b × IsClosedAt t b board proof

-- the board stands where the frame leads to from a, and less is left to do than before, at b
pub record IsTurned (t : Table) (test : Set ℕ → Bool) (a b : Spot) (f : Frame) (board : Board) : Type 0 where
  pub link : Link t test a f (spot_of board)
  pub passes : IsTrue (test (top board.labels))
  pub falls : room_at board.bits (spot_of board) < room_below board.bits b

-- what comes of a closed premise at b of a rule at a: a proof that closes what was to be closed at a, or the other premise
abbrev pub FoldsTo : Table → (Set ℕ → Bool) → Spot → Spot → Board → Folded → Type 0
FoldsTo t test a b board (Closed p) = IsClosedAt t a board p × (room_below board.bits a ≤ room_below board.bits b)
FoldsTo t test a b board (Turned f) = IsTurned t test a b f board

-- that comes of the frame, whatever spots it leads between, where the proof closes its premise
abbrev pub FoldsFrame : Table → Frame → Board → Board → Tree SignedId → Folded → Type 0
FoldsFrame t frame old new proof folded =
    (test : Set ℕ → Bool) (a b : Spot) → Link t test a frame b → IsClosedAt t b old proof → FoldsTo t test a b new folded

-- the greatest number of Steps on a path of what comes of it
abbrev pub folded_steps : Folded → ℕ
folded_steps (Closed p) = steps p
folded_steps (Turned f) = held_steps f
