-- A whole proof that is put into a table without lines.
use Rattle.std.proofs.Common.{◌≡◌, ℕ, ◌<◌, ◌≤◌, List, [], ◌∷◌, length, inr, ⊎_elim, sym, ap, subst, ◌∙◌, arith}
use Rattle.std.proofs.Math.Bool.{or-false}
use Rattle.std.proofs.lemmas.List.{length-map}
use Rattle.std.proofs.lemmas.List.Elements.{All-nil}
use Rattle.std.proofs.lemmas.Option.{slice_get_within}
use Rattle.lw_formula.specs.declared.logic.Logic.{Logic}
use Rattle.lw_formula.specs.declared.sign.Sign.TheVariants.{F}
use Rattle.lw_formula.specs.Formula.{Formula}
use Rattle.lw_formula.specs.Signed.{Signed, SignedSet}
use Rattle.lw_formula.proofs.ListMembers.{Contains-nil, AreDistinct-nil}
use Rattle.lw_pool.specs.declared.id.FormId.{FormId}
use Rattle.lw_pool.specs.declared.id.SignedId.{SignedId}
use Rattle.lw_pool.specs.Region.{tree_at, signed_at}
use Rattle.lw_proof.specs.Tree.{Tree, lines}
use Rattle.lw_proof.specs.System.{same_signed}
use Rattle.lw_proof.specs.Derivation.{Derives, Proves, only}
use Rattle.lw_proof.specs.Pooled.{proof_at}
use Rattle.lw_proof.proofs.FirstSubproofs.{lines_mapped}
use Rattle.lw_sets.specs.IdSets.{set_of}
use Rattle.lw_share.specs.Lines.{Line, CitesEarlier}
use Rattle.lw_share.specs.NodeSets.{proof_sets}
use Rattle.lw_share.specs.Pooled.{line_at, table_at}
use Rattle.lw_share.specs.SetCounts.{HasEachOnce}
use Rattle.lw_share.specs.SharedProofs.{line_sets, Holds, SharedProves}
use Rattle.lw_share.specs.Private.SharedSteps.{Puts, PutsProof}
use Rattle.lw_share.proofs.GrownTables.{line_of_within}

-- the set of the goal under F alone
goal_alone : (ts : List Formula) (goal : FormId) (items : List SignedId) → items ≡ record { sign = F; form = goal } ∷ [] →
    set_of ts items ≡ only (F, tree_at ts goal)
goal_alone ts goal items e = ap (set_of ts) e ∙ (λ i s. or-false (same_signed (F, tree_at ts goal) s) i)

module _ (L : Logic) (before : List Formula) (goal : FormId) (items : List SignedId) (alone : items ≡ record { sign = F; form = goal } ∷ [])
    (P : Tree SignedId) (proves : Proves L (proof_at before P) (tree_at before goal)) where
  -- the proof closes the set of the goal
  pub goal_derived : Derives L (tree_at before goal) (set_of before items) (proof_at before P)
  goal_derived =
      subst (λ (X : SignedSet). Derives L (tree_at before goal) X (proof_at before P)) (sym (goal_alone before goal items alone)) proves

  module _ (now : List Formula) (old new table : List (Line SignedId)) (none : old ≡ []) (done : table ≡ new) (n : ℕ)
      (put : PutsProof L before old now new items P n) where
    abbrev Put : List (Line Signed) → List (Line SignedId) → SignedSet → Type 0
    Put first later X = Puts L (tree_at before goal) first (table_at now later) X (proof_at before P) n

    whole : Put [] table (only (F, tree_at before goal))
    whole =
        subst (λ (X : SignedSet). Put [] table X) (goal_alone before goal items alone)
        (subst (λ (ks : List (Line SignedId)). Put [] ks (set_of before items)) (sym done)
        (subst (λ (ks : List (Line SignedId)). Put (table_at before ks) new (set_of before items)) none
        (put (tree_at before goal) goal_derived)))

    -- its number is that of a line
    pub whole_root : n < length table
    whole_root = omega (arith, slice_get_within (table_at now table) n whole.root.0 whole.root.1, length-map table (line_at now))

    -- the table is a proof of the goal
    pub whole_shared : CitesEarlier (table_at now table) → SharedProves L (table_at now table) n (tree_at before goal)
    whole_shared earlier = record {
      earlier = earlier;
      holds = whole.added.holds (All-nil (Holds L (tree_at before goal) []));
      root_within = line_of_within (table_at now table) n (only (F, tree_at before goal)) whole.root;
    }

    -- it has each set of the proof's steps once
    pub whole_sets : HasEachOnce (proof_sets L (tree_at before goal) (proof_at before P)) (line_sets (table_at now table))
    whole_sets = record {
      same = λ Y. (λ h. (whole.added.sets Y).1 (inr h), λ h. ⊎_elim (λ l. absurd (Contains-nil Y l)) (λ r. r) ((whole.added.sets Y).0 h));
      distinct = whole.added.distinct AreDistinct-nil;
    }

    -- and no more lines than the proof has
    pub whole_few : length table ≤ lines P
    whole_few = omega (arith, whole.added.few, length-map table (line_at now), lines_mapped (signed_at before) P)
