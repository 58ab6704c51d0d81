-- Validity in a logic, and refutation by a model.
use Rattle.std.specs.Prelude.{ℕ, ◌<◌}
use Rattle.lw_formula.specs.declared.logic.Logic.{Logic}
use Rattle.lw_formula.specs.Formula.{Formula}
use Rattle.lw_formula.specs.FiniteModel.{FiniteModel}
use Rattle.lw_formula.specs.Class.{Class}
use Rattle.lw_formula.specs.Truth.{IsTrueAt}

-- the formula is true at every world of every finite model of the logic's class
abbrev pub Valid : Logic → Formula → Type 0
Valid logic a = (m : FiniteModel) → Class logic m → (w : ℕ) → w < m.worlds → IsTrueAt m w a

-- the model is of the logic's class, and the formula is false at its world w
pub record Refutes (logic : Logic) (m : FiniteModel) (w : ℕ) (a : Formula) : Type 0 where
  pub in_class : Class logic m
  pub within : w < m.worlds
  pub fails : ¬ IsTrueAt m w a
