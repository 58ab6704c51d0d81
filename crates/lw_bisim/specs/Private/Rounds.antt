-- Worlds that are alike up to a number of steps (Blackburn, de Rijke and Venema, Modal Logic, section 2.3).
use Rattle.std.specs.Prelude.{◌≡◌, ℕ, zero, suc, ◌<◌, ◌↔◌, List, length}
use Rattle.lw_formula.specs.FiniteModel.{FiniteModel, Sees}
use Rattle.lw_bisim.specs.Bisimulation.{HaveSameLetters}
use Rattle.lw_bisim.specs.Quotient.{place_of, AreNumbered}

-- what v sees is related to something that u sees
abbrev pub Follows : FiniteModel → (ℕ → ℕ → Type 0) → ℕ → ℕ → Type 0
Follows m related v u = (w : ℕ) → Sees m v w → (x : ℕ) × Sees m u x × related w x

-- v and u have the same letters, and up to k steps what one of them sees is matched by what the other sees
abbrev pub AreAlike : FiniteModel → ℕ → ℕ → ℕ → Type 0
AreAlike m zero v u = HaveSameLetters m v u
AreAlike m (suc k) v u = AreAlike m k v u × Follows m (AreAlike m k) v u × Follows m (AreAlike m k) u v

-- the places are numbers of the classes of this relation
pub record AreClassesOf (m : FiniteModel) (related : ℕ → ℕ → Type 0) (places : List ℕ) (count : ℕ) : Type 0 where
  pub placed : length places ≡ m.worlds
  pub numbered : AreNumbered places count
  pub classes : (v u : ℕ) → v < m.worlds → u < m.worlds → (place_of places v ≡ place_of places u) ↔ related v u
