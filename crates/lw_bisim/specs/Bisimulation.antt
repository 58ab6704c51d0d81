-- Bisimulations of a finite model with itself (Blackburn, de Rijke and Venema, Modal Logic, section 2.2).
use Rattle.std.specs.Prelude.{ℕ, ◌<◌, ◌↔◌, List, All, Contains}
use Rattle.lw_formula.specs.FiniteModel.{FiniteModel, Sees, HasFact}

-- the same letters are true at v and at u
abbrev pub HaveSameLetters : FiniteModel → ℕ → ℕ → Type 0
HaveSameLetters m v u = (p : List ℕ) → HasFact m v p ↔ HasFact m u p

-- worlds that z relates have the same letters, and what one of them sees is related to something that the other sees
pub record IsBisimulation (m : FiniteModel) (z : List (ℕ × ℕ)) : Type 0 where
  pub within : All (λ p. (p.0 < m.worlds) × (p.1 < m.worlds)) z
  pub letters : (v u : ℕ) → Contains z (v, u) → HaveSameLetters m v u
  pub forth : (v u w : ℕ) → Contains z (v, u) → Sees m v w → (x : ℕ) × Sees m u x × Contains z (w, x)
  pub back : (v u x : ℕ) → Contains z (v, u) → Sees m u x → (w : ℕ) × Sees m v w × Contains z (w, x)

-- some bisimulation relates v and u
abbrev pub AreBisimilar : FiniteModel → ℕ → ℕ → Type 0
AreBisimilar m v u = (z : List (ℕ × ℕ)) × IsBisimulation m z × Contains z (v, u)
