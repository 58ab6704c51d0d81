-- Classes of worlds that are found by a key of each.
use Rattle.std.specs.Prelude.{◌≡◌, ℕ, ◌<◌, ◌↔◌, Bool, Contains, IsTrue, List, length}
use Rattle.std.specs.List.{slice_index_or}
use Rattle.lw_bisim.specs.Quotient.{place_of, AreNumbered}

-- one of these worlds is of class c
abbrev pub HasClass : List ℕ → List ℕ → ℕ → Type 0
HasClass places worlds c = (w : ℕ) × Contains worlds w × (place_of places w ≡ c)

-- the i-th and the j-th are equal by the test
abbrev pub AreEqualAt : {K : Type 0} → (K → K → Bool) → List K → ℕ → ℕ → Type 0
AreEqualAt {K} eq keys i j = (d : K) → IsTrue (eq (slice_index_or keys i d) (slice_index_or keys j d))

-- those with equal keys are of one class
pub record AreClassesBy {K : Type 0} (eq : K → K → Bool) (keys : List K) (places : List ℕ) (count : ℕ) : Type 0 where
  pub placed : length places ≡ length keys
  pub numbered : AreNumbered places count
  pub classes : (i j : ℕ) → i < length keys → j < length keys → (place_of places i ≡ place_of places j) ↔ AreEqualAt eq keys i j
