-- Laws of the normal form and of simplification, each a fact that stands by itself.
use Rattle.std.specs.Prelude.{ℕ, ◌*◌, ◌≤◌, ◌↔◌}
use Rattle.lw_formula.specs.Formula.{Formula, nodes, subformula_count}
use Rattle.lw_formula.specs.FiniteModel.{FiniteModel}
use Rattle.lw_formula.specs.Truth.{IsTrueAt}
use Rattle.lw_normal.specs.NegationNormalForm.{Nnf, nnf}
use Rattle.lw_normal.specs.Simplification.{simplify}

-- the normal form is true at the same worlds of every finite model
abbrev pub NnfKeepsTruth : Type 0
NnfKeepsTruth = (m : FiniteModel) (w : ℕ) (a : Formula) → IsTrueAt m w (nnf a) ↔ IsTrueAt m w a

-- the normal form is in negation normal form
abbrev pub NnfIsNnf : Type 0
NnfIsNnf = (a : Formula) → Nnf (nnf a)

-- the normal form has at most 6 distinct subformulas for each of the formula
abbrev pub NnfStaysSmall : Type 0
NnfStaysSmall = (a : Formula) → subformula_count (nnf a) ≤ 6 * subformula_count a

-- the simplified formula is true at the same worlds of every finite model
abbrev pub SimplifyKeepsTruth : Type 0
SimplifyKeepsTruth = (m : FiniteModel) (w : ℕ) (a : Formula) → IsTrueAt m w (simplify a) ↔ IsTrueAt m w a

-- the simplified formula has no more nodes
abbrev pub SimplifyAddsNoNodes : Type 0
SimplifyAddsNoNodes = (a : Formula) → nodes (simplify a) ≤ nodes a
