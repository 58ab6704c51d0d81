-- The steps of a proof are put into a table: first the subproofs in turn, then the step that they lead to.
use Rattle.std.proofs.Common.{◌≡◌, ℕ, ◌+◌, List, [], ◌∷◌, ◌++◌, length, ◌↔◌, ⊎_elim, refl, sym, ap, subst, ◌∙◌, arith, append_assoc}
use Rattle.std.specs.List.{AllZip, Contains}
use Rattle.std.proofs.lemmas.List.{append-nil}
use Rattle.std.proofs.lemmas.List.Elements.{Contains-append_left, Contains-push, Contains-push_cases}
use Rattle.std.proofs.lemmas.Slice.Zip.{all_zipped_more}
use Rattle.lw_formula.specs.declared.logic.Logic.{Logic}
use Rattle.lw_formula.specs.Formula.{Formula}
use Rattle.lw_formula.specs.Signed.{Signed, SignedSet}
use Rattle.lw_formula.specs.Components.{parts_of}
use Rattle.lw_formula.proofs.ListMembers.{Contains-head, Contains-tail, Contains-cons_cases}
use Rattle.lw_proof.specs.declared.rule.Rule.{Rule}
use Rattle.lw_proof.specs.Tree.{Tree, node, forest, lines, lines_all}
use Rattle.lw_proof.specs.System.{trees}
use Rattle.lw_proof.specs.Derivation.{premises, Applies, ClosedAll, Derives, goal_cuts}
use Rattle.lw_share.specs.Lines.{Line}
use Rattle.lw_share.specs.NodeSets.{node_sets, sets_of_all}
use Rattle.lw_share.specs.SharedProofs.{set_in, line_sets, IsLineWithin, CiteEach, Holds}
use Rattle.lw_share.specs.Private.SharedSteps.{IsLineOf, AddsSets, Puts}
use Rattle.lw_share.specs.Private.SharedSubproofs.{PutsEach}
use Rattle.lw_share.proofs.HeldLines.{applies_moved, cited_moved}
use Rattle.lw_share.proofs.GrownTables.{line_behind, zip_weaker, line_of_kept, line_of_within, none_added, added_alike, added_both, known_added, behind_added}

-- one more proof behind has its steps
lines_push : (Ps : List (Tree Signed)) (P : Tree Signed) → lines_all (forest (Ps ++ P ∷ [])) ≡ lines_all (forest Ps) + lines P
lines_push [] P = omega arith
lines_push (Q ∷ Qs) P = omega (arith, lines_push Qs P)

-- and their sets
sets_push : (L : Logic) (Xs : List SignedSet) (X : SignedSet) (Ps : List (Tree Signed)) (P : Tree Signed) → length Xs ≡ length Ps →
    sets_of_all L (Xs ++ X ∷ []) (forest (Ps ++ P ∷ [])) ≡ sets_of_all L Xs (forest Ps) ++ node_sets L X P
sets_push L [] X [] P e = append-nil (node_sets L X P)
sets_push L [] X (Q ∷ Qs) P e = absurd (omega (arith, e))
sets_push L (Y ∷ Ys) X [] P e = absurd (omega (arith, e))
sets_push L (Y ∷ Ys) X (Q ∷ Qs) P e =
    ap (λ (Zs : List SignedSet). node_sets L Y Q ++ Zs) (sets_push L Ys X Qs P (omega (arith, e)))
    ∙ sym (append_assoc (node_sets L Y Q) (sets_of_all L Ys (forest Qs)) (node_sets L X P))

-- proofs that close sets in turn do so one by one
pub closed_each : (L : Logic) (goal : Formula) (Xs : List SignedSet) (Ps : List (Tree Signed)) →
    ClosedAll trees (goal_cuts goal) L Xs (forest Ps) → AllZip (Derives L goal) Xs Ps
closed_each L goal [] [] c = tt
closed_each L goal [] (P ∷ Ps) c = absurd c
closed_each L goal (X ∷ Xs) [] c = absurd c
closed_each L goal (X ∷ Xs) (P ∷ Ps) c = (c.0, closed_each L goal Xs Ps c.1)

-- no subproof, no line
pub none_put : (L : Logic) (goal : Formula) (table : List (Line Signed)) (cites : List ℕ) → cites ≡ [] →
    PutsEach L goal table table [] [] cites
none_put L goal table cites e = record {
  added = none_added L goal table;
  roots = subst (λ (is : List ℕ). AllZip (IsLineOf table) is []) (sym e) tt;
}

-- the last of a list may as well be its first
last_first : (Xs : List SignedSet) (X Y : SignedSet) → Contains (Xs ++ X ∷ []) Y ↔ Contains (X ∷ Xs) Y
last_first Xs X Y = (
  λ h. ⊎_elim (λ m. Contains-tail X Xs Y m) (λ e. subst (Contains (X ∷ Xs)) e (Contains-head X Xs)) (Contains-push_cases Xs X Y h),
  λ h. ⊎_elim (λ e. subst (Contains (Xs ++ X ∷ [])) e (Contains-push Xs X)) (λ m. Contains-append_left Xs (X ∷ []) Y m)
      (Contains-cons_cases X Xs Y h),
)

module _ (L : Logic) (goal : Formula) (old mid : List (Line Signed)) where
  -- one more subproof
  pub more_put : (new : List (Line Signed)) (Xs : List SignedSet) (X : SignedSet) (Ps : List (Tree Signed)) (P : Tree Signed)
      (cites : List ℕ) (n : ℕ) → length Xs ≡ length Ps → PutsEach L goal old mid Xs Ps cites → Puts L goal mid new X P n →
      PutsEach L goal old new (Xs ++ X ∷ []) (Ps ++ P ∷ []) (cites ++ n ∷ [])
  more_put new Xs X Ps P cites n long before last = record {
    added =
        subst (λ (Ys : List SignedSet). AddsSets L goal old new Ys (lines_all (forest (Ps ++ P ∷ [])))) (sym (sets_push L Xs X Ps P long))
        (subst (AddsSets L goal old new (sets_of_all L Xs (forest Ps) ++ node_sets L X P)) (sym (lines_push Ps P))
        (added_both L goal old mid new (sets_of_all L Xs (forest Ps)) (node_sets L X P) (lines_all (forest Ps)) (lines P)
        before.added last.added));
    roots = all_zipped_more (IsLineOf new) cites Xs n X (zip_weaker (IsLineOf mid) (IsLineOf new) kept cites Xs before.roots) last.root;
  }
    where
      kept : (i : ℕ) (Y : SignedSet) → IsLineOf mid i Y → IsLineOf new i Y
      kept i Y at =
          subst (λ (table : List (Line Signed)). IsLineOf table i Y) (sym last.added.grown) (line_of_kept mid last.added.further i Y at)

  module _ (X : SignedSet) (r : Rule) (s : Signed) (Ps : List (Tree Signed)) (cites : List ℕ)
      (put : PutsEach L goal old mid (premises trees L r s (parts_of s) X) Ps cites) where
    -- the sets of the subproofs, and that of the step
    with_step : (new : List (Line Signed)) → AddsSets L goal mid new (X ∷ []) 1 →
        AddsSets L goal old new (node_sets L X (node r s (forest Ps))) (lines (node r s (forest Ps)))
    with_step new step =
        let subs : List SignedSet = sets_of_all L (premises trees L r s (parts_of s) X) (forest Ps) in
        added_alike L goal old new (subs ++ X ∷ []) (X ∷ subs) (lines_all (forest Ps) + 1) (last_first subs X)
        (added_both L goal old mid new subs (X ∷ []) (lines_all (forest Ps)) 1 put.added step)

    -- the step's set stood in the table
    pub known_put : (n : ℕ) → IsLineOf mid n X → Puts L goal old mid X (node r s (forest Ps)) n
    known_put n at = record { added = with_step mid (known_added L goal mid n X at); root = at }

    -- the step is put behind its subproofs
    pub behind_put : (line : Line Signed) → set_in line ≡ X → line.rule ≡ r → line.principal ≡ s → line.cites ≡ cites →
        Applies trees (goal_cuts goal) L X r s → ¬ Contains (line_sets mid) X →
        Puts L goal old (mid ++ line ∷ []) X (node r s (forest Ps)) (length mid)
    behind_put line e er es ec applies new = record {
      added = with_step (mid ++ line ∷ []) (behind_added L goal mid line X e line_holds new);
      root = (line, line_behind mid line, e);
    }
      where
        cited : CiteEach (mid ++ line ∷ []) cites (premises trees L r s (parts_of s) X)
        cited =
            zip_weaker (IsLineOf mid) (IsLineWithin (mid ++ line ∷ []))
            (λ i Y at. line_of_within (mid ++ line ∷ []) i Y (line_of_kept mid (line ∷ []) i Y at))
            cites (premises trees L r s (parts_of s) X) put.roots

        line_holds : Holds L goal (mid ++ line ∷ []) line
        line_holds = (
          applies_moved (goal_cuts goal) L X (set_in line) r line.rule s line.principal (sym e) (sym er) (sym es) applies,
          cited_moved (mid ++ line ∷ []) (mid ++ line ∷ []) cites line.cites _ _ refl (sym ec)
              (λ i. premises trees L (sym er i) (sym es i) (parts_of (sym es i)) (sym e i)) cited,
        )
