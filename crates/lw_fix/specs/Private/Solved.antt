-- The boxes of a formula, and formulas whose fixed points are known.
use Rattle.std.specs.Prelude.{◌≡◌, ℕ, List, All, Contains}
use Rattle.lw_formula.specs.Formula.{Formula}
use Rattle.lw_formula.specs.Variables.{Occurs}
use Rattle.lw_pool.specs.declared.id.FormId.{FormId}
use Rattle.lw_pool.specs.Region.{tree_at, IsLive, IsAt}
use Rattle.lw_fix.specs.declared.image.Image.{Image}
use Rattle.lw_fix.specs.Outermost.{IsOutermost}
use Rattle.lw_fix.specs.FixedPoint.{default_of, fix}
use Rattle.lw_fix.specs.Private.Images.{IsImage}

-- each image is the default of a formula with p, and each outermost modal subformula of a with p has one
pub record AreBoxes (ts : List Formula) (p : List ℕ) (a : Formula) (images : List Image) : Type 0 where
  pub right : All (IsImage default_of ts) images
  pub sound : (i : Image) → Contains images i → Occurs p (tree_at ts i.of)
  pub each : (m : Formula) → IsOutermost m a → Occurs p m → (i : Image) × Contains images i × (m ≡ tree_at ts i.of)

-- each entry has a formula with its fixed point for p
abbrev pub AreSolved : List Formula → List ℕ → List (FormId × FormId) → Type 0
AreSolved ts p entries = All (λ e. IsLive ts e.0 × IsAt ts (fix p (tree_at ts e.0)) e.1) entries
