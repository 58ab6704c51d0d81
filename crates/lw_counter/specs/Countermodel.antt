-- The model that a fragment makes in a logic.
use Rattle.std.specs.Prelude.{◌≡◌, ℕ, ◌<◌, ◌↔◌, IsTrue, List, length}
use Rattle.lw_formula.specs.declared.logic.Logic.{Logic}
use Rattle.lw_formula.specs.declared.sign.Sign.TheVariants.{T}
use Rattle.lw_formula.specs.Formula.{letter}
use Rattle.lw_formula.specs.FiniteModel.{FiniteModel, IsWellFormed, Sees, HasFact}
use Rattle.lw_formula.specs.Signed.{SignedSet}
use Rattle.lw_counter.specs.Fragment.{Fragment}
use Rattle.lw_counter.specs.FragmentPaths.{IsRelated}

-- the model has the fragment's worlds in their order, the logic's relation between them, and the letters that are signed T in their labels
pub record IsModelOf (L : Logic) (f : Fragment) (label : ℕ → SignedSet) (m : FiniteModel) : Type 0 where
  pub well_formed : IsWellFormed m
  pub worlds : m.worlds ≡ length f.worlds
  pub sees : (w v : ℕ) → Sees m w v ↔ ((w < length f.worlds) × (v < length f.worlds) × IsRelated L f w v)
  pub facts : (w : ℕ) (p : List ℕ) → HasFact m w p ↔ ((w < length f.worlds) × IsTrue (label w (T, letter p)))
