-- What it comes to that the steps of a proof are put into a table.
use Rattle.std.specs.Prelude.{◌≡◌, ◌≢◌, ◌↔◌, ◌⊎◌, ℕ, ◌+◌, ◌<◌, ◌≤◌, All, List, [], ◌∷◌, ◌++◌, length, Contains}
use Rattle.lw_formula.specs.declared.logic.Logic.{Logic}
use Rattle.lw_formula.specs.FiniteModel.{AreDistinct}
use Rattle.lw_formula.specs.Formula.{Formula}
use Rattle.lw_formula.specs.Signed.{Signed, SignedSet}
use Rattle.lw_pool.specs.declared.id.SignedId.{SignedId}
use Rattle.lw_proof.specs.Tree.{Tree, lines}
use Rattle.lw_proof.specs.Derivation.{Derives}
use Rattle.lw_proof.specs.Pooled.{proof_at}
use Rattle.lw_sets.specs.IdSets.{set_of}
use Rattle.lw_share.specs.Lines.{Line, IsLineAt}
use Rattle.lw_share.specs.NodeSets.{node_sets}
use Rattle.lw_share.specs.Pooled.{line_of, table_at}
use Rattle.lw_share.specs.SharedProofs.{set_in, line_sets, Holds}

-- the number is that of the line with this line's set: one that was there, or this line, which is put behind the others
pub data Enters (ts : List Formula) (old : List (Line SignedId)) (line : Line SignedId) : List (Line SignedId) → ℕ → Type 0 where
  known : {n : ℕ} → n < length old → set_of ts (line_of old n).members ≡ set_of ts line.members → Enters ts old line old n
  behind : ((i : ℕ) → i < length old → set_of ts (line_of old i).members ≢ set_of ts line.members) →
      Enters ts old line (old ++ line ∷ []) (length old)

-- the line with this number has the set
abbrev pub IsLineOf : List (Line Signed) → ℕ → SignedSet → Type 0
IsLineOf table i X = (line : Line Signed) × IsLineAt table i line × (set_in line ≡ X)

-- the table has grown by at most so many lines, for these sets
pub record AddsSets (L : Logic) (goal : Formula) (old new : List (Line Signed)) (Xs : List SignedSet) (most : ℕ) : Type 0 where
  -- lines are put behind those that were there
  pub further : List (Line Signed)
  pub grown : new ≡ old ++ further
  -- they hold where those that were there do
  pub holds : All (Holds L goal old) old → All (Holds L goal new) new
  pub sets : (Y : SignedSet) → Contains (line_sets new) Y ↔ (Contains (line_sets old) Y ⊎ Contains Xs Y)
  pub distinct : AreDistinct (line_sets old) → AreDistinct (line_sets new)
  pub few : length new ≤ length old + most

-- the table has grown by lines for the sets of the steps of a proof that closes X, and has X at this number
pub record Puts (L : Logic) (goal : Formula) (old new : List (Line Signed)) (X : SignedSet) (P : Tree Signed) (n : ℕ) : Type 0 where
  pub added : AddsSets L goal old new (node_sets L X P) (lines P)
  pub root : IsLineOf new n X

-- what is put is the proof, where it closes the set of the items, for each goal for which it does
abbrev pub PutsProof :
    Logic → List Formula → List (Line SignedId) → List Formula → List (Line SignedId) → List SignedId → Tree SignedId → ℕ → Type 0
PutsProof L before old now new xs P n =
    (goal : Formula) → Derives L goal (set_of before xs) (proof_at before P) →
    Puts L goal (table_at before old) (table_at now new) (set_of before xs) (proof_at before P) n
