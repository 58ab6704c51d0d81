-- What becomes of a model to which a pair or a fact is added, and its facts by their places.
use Rattle.std.specs.Prelude.{◌≡◌, ℕ, ◌⊎◌, ◌↔◌, List, []}
use Rattle.std.specs.List.{slice_index_or}
use Rattle.lw_formula.specs.FiniteModel.{FiniteModel, Sees, HasFact}

-- the second model is the first, but that v sees w in it
pub record AddsPair (m : FiniteModel) (v w : ℕ) (n : FiniteModel) : Type 0 where
  pub worlds : n.worlds ≡ m.worlds
  pub facts : n.facts ≡ m.facts
  pub relation : (a b : ℕ) → Sees n a b ↔ (Sees m a b ⊎ ((v ≡ a) × (w ≡ b)))

-- the second model is the first, but that p is true at w in it
pub record AddsFact (m : FiniteModel) (w : ℕ) (p : List ℕ) (n : FiniteModel) : Type 0 where
  pub worlds : n.worlds ≡ m.worlds
  pub pairs : n.pairs ≡ m.pairs
  pub relation : (v : ℕ) (q : List ℕ) → HasFact n v q ↔ (HasFact m v q ⊎ ((w ≡ v) × (p ≡ q)))

-- the i-th fact, from 0
abbrev pub fact_at : FiniteModel → ℕ → ℕ × List ℕ
fact_at m i = slice_index_or m.facts i (0, [])
