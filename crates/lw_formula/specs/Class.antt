-- The classes of finite models of the eight logics (Goré, Tableau methods for modal and temporal logics, section 2).
use Rattle.std.specs.Prelude.{◌≡◌, ℕ, ◌<◌, ⊤}
use Rattle.lw_formula.specs.declared.logic.Logic.{Logic}
use Rattle.lw_formula.specs.declared.logic.Logic.TheVariants.{K, KT, S4, S5, GL, Grz, K4, KD}
use Rattle.lw_formula.specs.FiniteModel.{FiniteModel, IsWellFormed, Sees}

-- each world sees itself
abbrev pub IsReflexive : FiniteModel → Type 0
IsReflexive m = (w : ℕ) → w < m.worlds → Sees m w w

-- no world sees itself
abbrev pub IsIrreflexive : FiniteModel → Type 0
IsIrreflexive m = (w : ℕ) → ¬ Sees m w w

-- what is seen from a world that is seen is seen
abbrev pub IsTransitive : FiniteModel → Type 0
IsTransitive m = (u v w : ℕ) → Sees m u v → Sees m v w → Sees m u w

-- a world that is seen sees back
abbrev pub IsSymmetric : FiniteModel → Type 0
IsSymmetric m = (v w : ℕ) → Sees m v w → Sees m w v

-- two worlds that see each other are one
abbrev pub IsAntisymmetric : FiniteModel → Type 0
IsAntisymmetric m = (v w : ℕ) → Sees m v w → Sees m w v → v ≡ w

-- each world sees one
abbrev pub IsSerial : FiniteModel → Type 0
IsSerial m = (v : ℕ) → v < m.worlds → (w : ℕ) × Sees m v w

-- the relation is one of the logic's frames
abbrev pub HasFrame : Logic → FiniteModel → Type 0
HasFrame K m = ⊤
HasFrame KT m = IsReflexive m
HasFrame S4 m = IsReflexive m × IsTransitive m
HasFrame S5 m = IsReflexive m × IsSymmetric m × IsTransitive m
HasFrame GL m = IsTransitive m × IsIrreflexive m
HasFrame Grz m = IsReflexive m × IsTransitive m × IsAntisymmetric m
HasFrame K4 m = IsTransitive m
HasFrame KD m = IsSerial m

-- m is a finite model of the logic's class
pub record Class (logic : Logic) (m : FiniteModel) : Type 0 where
  pub well_formed : IsWellFormed m
  pub frame : HasFrame logic m
