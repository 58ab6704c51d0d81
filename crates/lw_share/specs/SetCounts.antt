-- How many sets the steps of a proof close.
use Rattle.std.specs.Prelude.{◌≡◌, ◌↔◌, ℕ, List, length, Contains}
use Rattle.lw_formula.specs.declared.logic.Logic.{Logic}
use Rattle.lw_formula.specs.FiniteModel.{AreDistinct}
use Rattle.lw_formula.specs.Formula.{Formula}
use Rattle.lw_formula.specs.Signed.{Signed, SignedSet}
use Rattle.lw_proof.specs.Tree.{Tree}
use Rattle.lw_share.specs.NodeSets.{proof_sets}

-- the second list has each set of the first exactly once, and no other
pub record HasEachOnce (Xs Ys : List SignedSet) : Type 0 where
  pub same : (X : SignedSet) → Contains Xs X ↔ Contains Ys X
  pub distinct : AreDistinct Ys

-- the steps of the proof of the goal close so many sets, where one that is closed at several steps counts once
abbrev pub CountsSets : Logic → Formula → Tree Signed → ℕ → Type 0
CountsSets L goal P n = (Ys : List SignedSet) × HasEachOnce (proof_sets L goal P) Ys × (length Ys ≡ n)
