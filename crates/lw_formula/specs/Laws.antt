-- Laws of truth and of validity, each a fact that stands by itself.
use Rattle.std.specs.Prelude.{ℕ, ◌↔◌, List, IsTrue}
use Rattle.lw_formula.specs.declared.logic.Logic.{Logic}
use Rattle.lw_formula.specs.Formula.{Formula, falsum}
use Rattle.lw_formula.specs.Variables.{Occurs, replace}
use Rattle.lw_formula.specs.FiniteModel.{FiniteModel, Sees, HasFact}
use Rattle.lw_formula.specs.Truth.{IsTrueAt, true_at}
use Rattle.lw_formula.specs.Validity.{Valid}

-- in every finite model the test of truth says yes exactly where the formula is true
abbrev pub TruthsAgree : Type 0
TruthsAgree = (m : FiniteModel) (w : ℕ) (a : Formula) → IsTrue (true_at m w a) ↔ IsTrueAt m w a

-- falsum is valid in no logic, so each logic has a model
abbrev pub NoLogicIsEmpty : Type 0
NoLogicIsEmpty = (logic : Logic) → ¬ Valid logic falsum

-- the models have the same relation, and the same facts of the formula's variables
pub record AgreeOn (a : Formula) (m n : FiniteModel) : Type 0 where
  pub relation : (v w : ℕ) → Sees m v w ↔ Sees n v w
  pub facts : (p : List ℕ) → Occurs p a → (w : ℕ) → HasFact m w p ↔ HasFact n w p

-- such models give the formula the same truth at each world
abbrev pub TruthDependsOnVariables : Type 0
TruthDependsOnVariables = (a : Formula) (m n : FiniteModel) → AgreeOn a m n → (w : ℕ) → IsTrueAt m w a ↔ IsTrueAt n w a

-- a formula with another for one of its variables is valid where it was
abbrev pub SubstitutionKeepsValidity : Type 0
SubstitutionKeepsValidity = (logic : Logic) (p : List ℕ) (a b : Formula) → Valid logic a → Valid logic (replace p b a)
