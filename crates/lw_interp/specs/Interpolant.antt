-- Interpolants (Craig; for modal logics Fitting, Proof methods for modal and intuitionistic logics, chapter 4).
use Rattle.std.specs.Prelude.{ℕ, List, Bool, true, false}
use Rattle.lw_formula.specs.declared.logic.Logic.{Logic}
use Rattle.lw_formula.specs.declared.logic.Logic.TheVariants.{K, KT, S4, S5, GL, Grz, K4, KD}
use Rattle.lw_formula.specs.Formula.{Formula, impl}
use Rattle.lw_formula.specs.Variables.{Occurs}
use Rattle.lw_formula.specs.Validity.{Valid}

-- the logics in which interpolants are read off proofs
abbrev pub has_interpolants : Logic → Bool
has_interpolants K = true
has_interpolants KT = true
has_interpolants S4 = true
has_interpolants S5 = false
has_interpolants GL = true
has_interpolants Grz = false
has_interpolants K4 = false
has_interpolants KD = false

-- the formula i stands between a and b: it has variables of both alone, a implies it, and it implies b
pub record Interpolant (logic : Logic) (a i b : Formula) : Type 0 where
  pub of_left : (p : List ℕ) → Occurs p i → Occurs p a
  pub of_right : (p : List ℕ) → Occurs p i → Occurs p b
  pub implied : Valid logic (impl a i)
  pub implies : Valid logic (impl i b)
