-- The quotient of a finite model by its largest bisimulation, with one world for each class of bisimilar worlds.
use Rattle.std.specs.Prelude.{◌≡◌, ◌≢◌, ℕ, ◌<◌, ◌↔◌, List, All, length}
use Rattle.std.specs.List.{slice_index_or}
use Rattle.lw_formula.specs.FiniteModel.{FiniteModel, IsWellFormed, Sees, HasFact}
use Rattle.lw_bisim.specs.Bisimulation.{AreBisimilar}

-- a model, and for each world of another model the world of this one that is its class
pub record Quotient : Type 0 where
  pub model : FiniteModel
  pub places : List ℕ

-- the class of world v
abbrev pub place_of : List ℕ → ℕ → ℕ
place_of places v = slice_index_or places v 0

-- v is the least world of class c
pub record IsLeastOf (places : List ℕ) (c v : ℕ) : Type 0 where
  pub within : v < length places
  pub place : place_of places v ≡ c
  pub least : (u : ℕ) → u < v → place_of places u ≢ c

-- the classes are the numbers below the count, in the order of the least world in each
pub record AreNumbered (places : List ℕ) (count : ℕ) : Type 0 where
  pub below : All (λ c. c < count) places
  pub taken : (c : ℕ) → c < count → (v : ℕ) × IsLeastOf places c v
  pub ordered : (c d v u : ℕ) → IsLeastOf places c v → IsLeastOf places d u → c < d → v < u

-- q has a world for each class of bisimilar worlds of m, with their letters, and it sees the classes that they see
pub record IsQuotient (m : FiniteModel) (q : Quotient) : Type 0 where
  pub well_formed : IsWellFormed q.model
  pub placed : length q.places ≡ m.worlds
  pub numbered : AreNumbered q.places q.model.worlds
  pub classes : (v u : ℕ) → v < m.worlds → u < m.worlds → (place_of q.places v ≡ place_of q.places u) ↔ AreBisimilar m v u
  pub letters : (v : ℕ) (p : List ℕ) → v < m.worlds → HasFact q.model (place_of q.places v) p ↔ HasFact m v p
  pub sees : (c d : ℕ) → Sees q.model c d ↔ ((v u : ℕ) × Sees m v u × (place_of q.places v ≡ c) × (place_of q.places u ≡ d))
