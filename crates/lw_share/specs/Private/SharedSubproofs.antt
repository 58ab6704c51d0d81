-- What it comes to that the subproofs of a step are put into a table in turn.
use Rattle.std.specs.Prelude.{ℕ, List, map}
use Rattle.std.specs.List.{AllZip}
use Rattle.lw_formula.specs.declared.logic.Logic.{Logic}
use Rattle.lw_formula.specs.Formula.{Formula}
use Rattle.lw_formula.specs.Signed.{Signed, SignedSet}
use Rattle.lw_pool.specs.declared.id.SignedId.{SignedId}
use Rattle.lw_proof.specs.Tree.{Tree, forest, subs_of, lines_all}
use Rattle.lw_proof.specs.Derivation.{Derives}
use Rattle.lw_proof.specs.Pooled.{proof_at}
use Rattle.lw_sets.specs.IdSets.{set_of}
use Rattle.lw_share.specs.Lines.{Line}
use Rattle.lw_share.specs.NodeSets.{sets_of_all}
use Rattle.lw_share.specs.Pooled.{table_at}
use Rattle.lw_share.specs.Private.SharedSteps.{IsLineOf, AddsSets}

-- the proof closes the set of the ids, for some goal
abbrev pub IsDerived : Logic → List Formula → List SignedId → Tree SignedId → Type 0
IsDerived L ts xs P = (goal : Formula) × Derives L goal (set_of ts xs) (proof_at ts P)

-- the subproofs of the proof's first step close the sets of the lists in turn, for the goal
abbrev pub DerivesEach : Logic → Formula → List Formula → List (List SignedId) → Tree SignedId → Type 0
DerivesEach L goal ts lists P = AllZip (Derives L goal) (map (set_of ts) lists) (map (proof_at ts) (subs_of P))

-- so they do for some goal
abbrev pub AreDerived : Logic → List Formula → List (List SignedId) → Tree SignedId → Type 0
AreDerived L ts lists P = (goal : Formula) × DerivesEach L goal ts lists P

-- the table has grown by lines for the sets of the steps of proofs, each of which closes its set, and has those at these numbers
pub record PutsEach (L : Logic) (goal : Formula) (old new : List (Line Signed)) (Xs : List SignedSet) (Ps : List (Tree Signed))
    (cites : List ℕ) : Type 0 where
  pub added : AddsSets L goal old new (sets_of_all L Xs (forest Ps)) (lines_all (forest Ps))
  pub roots : AllZip (IsLineOf new) cites Xs

-- what is put are the subproofs, where they close the sets of the lists, for each goal for which they do
abbrev pub PutsSubproofs :
    Logic → List Formula → List (Line SignedId) → List Formula → List (Line SignedId) → List (List SignedId) → Tree SignedId → List ℕ →
    Type 0
PutsSubproofs L before old now new lists P cites =
    (goal : Formula) → DerivesEach L goal before lists P →
    PutsEach L goal (table_at before old) (table_at now new) (map (set_of before) lists) (map (proof_at before) (subs_of P)) cites
