-- Finite Kripke models (Goré, Tableau methods for modal and temporal logics, section 2).
use Rattle.std.specs.Prelude.{◌≢◌, ℕ, ◌<◌, ◌≤◌, List, All, AllPairs, Contains}

-- how many worlds there are, which world sees which, and which letters are true where
pub record FiniteModel : Type 0 where
  pub worlds : ℕ
  pub pairs : List (ℕ × ℕ)
  pub facts : List (ℕ × List ℕ)

-- no element stands twice
abbrev pub AreDistinct : {X : Type 0} → List X → Type 0
AreDistinct xs = AllPairs (λ x y. x ≢ y) xs

-- there is a world, and both lists are without doubles and speak of its worlds alone
pub record IsWellFormed (m : FiniteModel) : Type 0 where
  pub inhabited : 1 ≤ m.worlds
  pub pairs_within : All (λ p. (p.0 < m.worlds) × (p.1 < m.worlds)) m.pairs
  pub pairs_distinct : AreDistinct m.pairs
  pub facts_within : All (λ f. f.0 < m.worlds) m.facts
  pub facts_distinct : AreDistinct m.facts

-- world w sees world v
abbrev pub Sees : FiniteModel → ℕ → ℕ → Type 0
Sees m w v = Contains m.pairs (w, v)

-- the letter p is true at world w
abbrev pub HasFact : FiniteModel → ℕ → List ℕ → Type 0
HasFact m w p = Contains m.facts (w, p)
