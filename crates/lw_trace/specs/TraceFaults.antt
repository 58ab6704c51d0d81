-- Which formulas have a trace here, and why another has none.
use Rattle.std.specs.Prelude.{◌≡◌, ℕ, ◌<◌, ◌≤◌, ◌⊎◌, List, ⊤}
use Rattle.std.specs.Ordering.{nat_cmp}
use Rattle.std.specs.Cmp.Lexicographic.{slice_cmp}
use Rattle.std.specs.declared.cmp.Ordering.TheVariants.{Less}
use Rattle.lw_formula.specs.Formula.{Formula, subformula_count}
use Rattle.lw_formula.specs.Variables.{Occurs}
use Rattle.lw_closure.specs.declared.fault.TheConstants.{SUBFORMULA_LIMIT}
use Rattle.lw_trace.specs.declared.fault.TraceFault.{TraceFault}
use Rattle.lw_trace.specs.declared.fault.TraceFault.TheVariants.{NotLetterless, TooLarge, Memory}
use Rattle.lw_trace.specs.LetterlessTruth.{IsLetterless}

-- the formula has no variables, and not too many distinct subformulas
abbrev pub IsWithinLimit : Formula → Type 0
IsWithinLimit a = IsLetterless a × (subformula_count a ≤ SUBFORMULA_LIMIT)

-- the name is a variable of the formula, and stands before each other one in byte order
pub record IsFirstVariable (name : List ℕ) (a : Formula) : Type 0 where
  pub occurs : Occurs name a
  pub first : (p : List ℕ) → Occurs p a → (p ≡ name) ⊎ (slice_cmp nat_cmp name p ≡ Less)

-- the fault names what is in the way, a variable first, or is want of memory
abbrev pub IsFaultOf : Formula → TraceFault → Type 0
IsFaultOf a (NotLetterless name) = IsFirstVariable name a
IsFaultOf a (TooLarge count) = IsLetterless a × (count ≡ subformula_count a) × (SUBFORMULA_LIMIT < count)
IsFaultOf a Memory = ⊤
