-- The laws of shared proofs.
use Rattle.std.specs.Prelude.{◌≡◌, ℕ, List}
use Rattle.lw_formula.specs.declared.logic.Logic.{Logic}
use Rattle.lw_formula.specs.Formula.{Formula}
use Rattle.lw_formula.specs.Signed.{Signed}
use Rattle.lw_formula.specs.Validity.{Valid}
use Rattle.lw_proof.specs.Tree.{Tree}
use Rattle.lw_proof.specs.Derivation.{Proves}
use Rattle.lw_share.specs.Lines.{Line}
use Rattle.lw_share.specs.SetCounts.{CountsSets}
use Rattle.lw_share.specs.SharedProofs.{SharedProves}
use Rattle.lw_share.specs.Unfolding.{Unfolds}

-- a shared proof unfolds to a tree
abbrev pub SharedProofUnfolds : Type 0
SharedProofUnfolds =
    (logic : Logic) (table : List (Line Signed)) (root : ℕ) (goal : Formula) → SharedProves logic table root goal →
    (proof : Tree Signed) × Unfolds table root proof

-- a line unfolds to one tree at most
abbrev pub UnfoldsOnce : Type 0
UnfoldsOnce =
    (table : List (Line Signed)) (root : ℕ) (one other : Tree Signed) →
    Unfolds table root one → Unfolds table root other → one ≡ other

-- and that tree proves the goal
abbrev pub UnfoldedProves : Type 0
UnfoldedProves =
    (logic : Logic) (table : List (Line Signed)) (root : ℕ) (goal : Formula) → SharedProves logic table root goal →
    (proof : Tree Signed) → Unfolds table root proof → Proves logic proof goal

-- what has a shared proof in a logic is true at every world of every finite model of its class
abbrev pub SharedIsValid : Type 0
SharedIsValid =
    (logic : Logic) (table : List (Line Signed)) (root : ℕ) (goal : Formula) → SharedProves logic table root goal → Valid logic goal

-- the sets that the steps of a proof close are counted in one way
abbrev pub OneSetCount : Type 0
OneSetCount =
    (logic : Logic) (goal : Formula) (proof : Tree Signed) (one other : ℕ) →
    CountsSets logic goal proof one → CountsSets logic goal proof other → one ≡ other
