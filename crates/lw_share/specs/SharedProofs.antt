-- Proofs that share subproofs: tables of closed sets. A line is as a step of a proof is, with a line that is cited in place of a
-- subproof.
use Rattle.std.specs.Prelude.{ℕ, All, List, map}
use Rattle.std.specs.List.{AllZip}
use Rattle.lw_formula.specs.declared.logic.Logic.{Logic}
use Rattle.lw_formula.specs.declared.sign.Sign.TheVariants.{F}
use Rattle.lw_formula.specs.Formula.{Formula}
use Rattle.lw_formula.specs.Signed.{Signed, SignedSet}
use Rattle.lw_formula.specs.Components.{parts_of}
use Rattle.lw_proof.specs.System.{IsWithin, trees}
use Rattle.lw_proof.specs.Derivation.{Applies, premises, goal_cuts, only}
use Rattle.lw_sets.specs.IdSets.{among}
use Rattle.lw_share.specs.Lines.{Line, IsLineAt, CitesEarlier}

-- the set of the line
abbrev pub set_in : Line Signed → SignedSet
set_in line = among line.members

-- the sets of the lines, in order
abbrev pub line_sets : List (Line Signed) → List SignedSet
line_sets table = map set_in table

-- there is a line with this number, and its set is within X
abbrev pub IsLineWithin : List (Line Signed) → ℕ → SignedSet → Type 0
IsLineWithin table i X = (line : Line Signed) × IsLineAt table i line × IsWithin (set_in line) X

-- as many lines are cited as there are premises, and the set of each is within its premise
abbrev pub CiteEach : List (Line Signed) → List ℕ → List SignedSet → Type 0
CiteEach table cites Xs = AllZip (IsLineWithin table) cites Xs

-- the line holds for the goal: its rule may be used where its set is to be closed, and it cites a line for each premise
abbrev pub Holds : Logic → Formula → List (Line Signed) → Line Signed → Type 0
Holds L goal table line =
    Applies trees (goal_cuts goal) L (set_in line) line.rule line.principal ×
    CiteEach table line.cites (premises trees L line.rule line.principal (parts_of line.principal) (set_in line))

-- the lines are a proof of the goal: each cites earlier lines and holds, and the set of the root is within that of `F goal` alone
pub record SharedProves (logic : Logic) (table : List (Line Signed)) (root : ℕ) (goal : Formula) : Type 0 where
  pub earlier : CitesEarlier table
  pub holds : All (Holds logic goal table) table
  pub root_within : IsLineWithin table root (only (F, goal))
