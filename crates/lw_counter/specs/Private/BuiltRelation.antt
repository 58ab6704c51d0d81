-- Relations that code builds up: squares of bits, and what is added to a relation.
use Rattle.std.specs.Prelude.{◌≡◌, ℕ, ◌+◌, ◌*◌, ◌<◌, ◌⊎◌, ◌↔◌, Bool, false, IsTrue, List}
use Rattle.std.specs.List.{slice_index_or}
use Rattle.lw_formula.specs.FiniteModel.{FiniteModel, Sees, HasFact}

-- a bit for each pair of numbers below the count, row by row
pub record Square : Type 0 where
  pub count : ℕ
  pub bits : List Bool

-- the bit of w and v is set
abbrev pub Joins : Square → ℕ → ℕ → Type 0
Joins s w v = (w < s.count) × (v < s.count) × IsTrue (slice_index_or s.bits (w * s.count + v) false)

-- the new relation has what the old one had and what more there is, and nothing else
pub record Adds {X Y : Type 0} (old new more : X → Y → Type 0) : Type 0 where
  pub keeps : (a : X) (b : Y) → old a b → new a b
  pub adds : (a : X) (b : Y) → more a b → new a b
  pub only : (a : X) (b : Y) → new a b → old a b ⊎ more a b

-- these bits were set, and no others
pub record SetsBits (old new : Square) (more : ℕ → ℕ → Type 0) : Type 0 where
  pub count : new.count ≡ old.count
  pub bits : Adds (Joins old) (Joins new) more

-- these pairs were added to the model, and nothing else
pub record AddsPairs (old new : FiniteModel) (more : ℕ → ℕ → Type 0) : Type 0 where
  pub worlds : new.worlds ≡ old.worlds
  pub facts : new.facts ≡ old.facts
  pub pairs : Adds (Sees old) (Sees new) more

-- these facts were added to the model, and nothing else
pub record AddsFacts (old new : FiniteModel) (more : ℕ → List ℕ → Type 0) : Type 0 where
  pub worlds : new.worlds ≡ old.worlds
  pub pairs : new.pairs ≡ old.pairs
  pub facts : Adds (HasFact old) (HasFact new) more

-- the square is a relation between so many worlds
pub record IsSquareOf (n : ℕ) (relation : ℕ → ℕ → Type 0) (s : Square) : Type 0 where
  pub count : s.count ≡ n
  pub joins : (w v : ℕ) → w < n → v < n → Joins s w v ↔ relation w v
