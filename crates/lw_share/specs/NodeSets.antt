-- The sets that a derivation gives to the steps of a proof.
use Rattle.std.specs.Prelude.{List, [], ◌∷◌, ◌++◌}
use Rattle.lw_formula.specs.declared.logic.Logic.{Logic}
use Rattle.lw_formula.specs.declared.sign.Sign.TheVariants.{F}
use Rattle.lw_formula.specs.Formula.{Formula}
use Rattle.lw_formula.specs.Signed.{Signed, SignedSet}
use Rattle.lw_formula.specs.Components.{parts_of}
use Rattle.lw_proof.specs.Tree.{Tree, Forest, node, more}
use Rattle.lw_proof.specs.System.{trees}
use Rattle.lw_proof.specs.Derivation.{premises, only}

abbrev mutual
  -- where the proof is to close X: X, then the sets of the subproofs, each of which is to close its premise
  pub node_sets : Logic → SignedSet → Tree Signed → List SignedSet
  node_sets L X (node r s ts) = X ∷ sets_of_all L (premises trees L r s (parts_of s) X) ts

  -- the sets of proofs, each of which is to close one of these
  pub sets_of_all : Logic → List SignedSet → Forest Signed → List SignedSet
  sets_of_all L (X ∷ Xs) (more t ts) = node_sets L X t ++ sets_of_all L Xs ts
  sets_of_all L _ _ = []

-- the sets of the steps of a proof of the goal, in pre-order
abbrev pub proof_sets : Logic → Formula → Tree Signed → List SignedSet
proof_sets L goal P = node_sets L (only (F, goal)) P
