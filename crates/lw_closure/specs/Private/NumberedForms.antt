-- The formulas that are numbered, while a closure is built.
use Rattle.std.specs.Prelude.{◌≡◌, ℕ, ◌<◌, ◌⊎◌, All, Contains, List, [], ◌∷◌, ◌++◌, length}
use Rattle.lw_formula.specs.FiniteModel.{AreDistinct}
use Rattle.lw_formula.specs.Formula.{Formula, IsOperand}
use Rattle.lw_pool.specs.declared.id.FormId.{FormId}
use Rattle.lw_pool.specs.Region.{IsLive}
use Rattle.lw_closure.specs.Table.{form_of, form_at}
use Rattle.lw_closure.specs.Keeps.{StandsBelow}

-- the formula stands at the place, where it was before or behind the others
pub record IsAdded (old new : List FormId) (form : FormId) (at : ℕ) : Type 0 where
  pub below : at < length new
  pub there : form_of new at ≡ form
  pub either : (Contains old form × (new ≡ old)) ⊎ ((¬ Contains old form) × (new ≡ old ++ form ∷ []))

-- the ids are live, each once and behind those of its operands
pub record IsNumbering (ts : List Formula) (forms : List FormId) : Type 0 where
  pub live : All (IsLive ts) forms
  pub distinct : AreDistinct forms
  pub operands : (i : ℕ) (c : Formula) → i < length forms → IsOperand c (form_at ts forms i) → StandsBelow ts forms i c
