-- The laws of the calculus.
use Rattle.std.specs.Prelude.{◌≡◌, ◌↔◌, IsTrue, None}
use Rattle.lw_formula.specs.declared.logic.Logic.{Logic}
use Rattle.lw_formula.specs.Formula.{Formula}
use Rattle.lw_formula.specs.Signed.{Signed, SignedSet}
use Rattle.lw_formula.specs.Validity.{Valid}
use Rattle.lw_proof.specs.Tree.{Tree}
use Rattle.lw_proof.specs.Derivation.{Derives, Proves}
use Rattle.lw_proof.specs.Break.{first_break}

-- what has a proof in a logic is true at every world of every finite model of its class
abbrev pub ProvedIsValid : Type 0
ProvedIsValid = (logic : Logic) (proof : Tree Signed) (goal : Formula) → Proves logic proof goal → Valid logic goal

-- a proof closes each set that has all members of a set that it closes
abbrev pub LargerSetsAreClosed : Type 0
LargerSetsAreClosed =
    (logic : Logic) (goal : Formula) (small large : SignedSet) (proof : Tree Signed) →
    ((s : Signed) → IsTrue (small s) → IsTrue (large s)) → Derives logic goal small proof → Derives logic goal large proof

-- sets with the same members are closed by the same proofs
abbrev pub EqualSetsAreClosedAlike : Type 0
EqualSetsAreClosedAlike =
    (logic : Logic) (goal : Formula) (one other : SignedSet) (proof : Tree Signed) →
    ((s : Signed) → IsTrue (one s) ↔ IsTrue (other s)) → Derives logic goal one proof ↔ Derives logic goal other proof

-- no step breaks its rule exactly where the proof proves the goal
abbrev pub FirstBreakIsExact : Type 0
FirstBreakIsExact = (logic : Logic) (proof : Tree Signed) (goal : Formula) → (first_break logic goal proof ≡ None) ↔ Proves logic proof goal
