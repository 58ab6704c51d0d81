-- From the lines that hold to the verdict.
use Rattle.std.proofs.Common.{◌≡◌, ◌↔◌, ℕ, ◌+◌, ◌<◌, ◌≤◌, Bool, true, false, List, [], ◌∷◌, length, get_or, inl, inr, sym, ap, subst, ◌∙◌, arith}
use Rattle.std.specs.Bool.{IsTrue}
use Rattle.std.specs.List.{All, Contains}
use Rattle.std.proofs.Math.Bool.{or-false}
use Rattle.std.proofs.lemmas.Bool.{cases_lt, false≢true}
use Rattle.std.proofs.lemmas.List.{length-map}
use Rattle.std.proofs.lemmas.Option.{slice_get-get_or, slice_get_within}
use Rattle.lw_formula.specs.declared.logic.Logic.{Logic}
use Rattle.lw_formula.specs.declared.sign.Sign.TheVariants.{F}
use Rattle.lw_formula.specs.Formula.{Formula, IsSubformula, subformulas}
use Rattle.lw_formula.specs.Signed.{Signed, SignedSet}
use Rattle.lw_formula.specs.Validity.{Valid}
use Rattle.lw_formula.proofs.SubformulaLists.{is_member-Decides, subformulas-IsSubformula}
use Rattle.lw_pool.specs.declared.id.FormId.{FormId}
use Rattle.lw_pool.specs.declared.id.SignedId.{SignedId}
use Rattle.lw_pool.specs.Region.{IsLive, Grows, tree_at, signed_at, is_marked, AreMarks}
use Rattle.lw_proof.specs.System.{IsWithin, same_signed}
use Rattle.lw_proof.specs.Derivation.{is_subformula, goal_cuts, only}
use Rattle.lw_sets.specs.IdSets.{among, set_of}
use Rattle.lw_sets.proofs.GrownPools.{signed_grows, listed_grows}
use Rattle.lw_sets.proofs.SetMembers.{Decides_alike}
use Rattle.lw_share.specs.Lines.{Line, IsLineAt, CitesEarlier}
use Rattle.lw_share.specs.Pooled.{line_of, line_at, table_at, IsLineLive, IsTableLive}
use Rattle.lw_share.specs.SharedProofs.{IsLineWithin, Holds, SharedProves}
use Rattle.lw_share.specs.declared.verdict.SharedVerdict.{SharedVerdict}
use Rattle.lw_share.specs.declared.verdict.SharedVerdict.TheVariants.{Accepted, Rejected}
use Rattle.lw_share.specs.SharedVerdicts.{HoldBefore, IsFault, IsSharedVerdict, IsAccepted}
use Rattle.lw_share.specs.Private.PremiseLists.{TellsHolds}
use Rattle.lw_share.proofs.UnfoldedLines.{one_line, each_line, shared_valid}
use Rattle.lw_share.proofs.CitedLines.{at_number, line_within, within_line, cites_earlier}
use Rattle.lw_share.proofs.HeldLines.{line_grows, table_grows}

-- each line of the table cites earlier lines, whatever its ids stand for
pub earlier_at : (ts : List Formula) (table : List (Line SignedId)) → CitesEarlier table → CitesEarlier (table_at ts table)
earlier_at ts table earlier i line at =
    let below : i < length table = omega (arith, slice_get_within (table_at ts table) i line at, length-map table (line_at ts)) in
    let same : line_at ts (line_of table i) ≡ line = one_line (table_at ts table) i (line_at ts (line_of table i)) line (at_number ts table i below) at in
    subst (λ (l : Line Signed). All (λ c. c < i) l.cites) same (cites_earlier table earlier i below)

within_moved : (X Y V W : SignedSet) → X ≡ Y → V ≡ W → IsWithin X V → IsWithin Y W
within_moved X Y V W e f h = subst (λ (Z : SignedSet). IsWithin Z W) e (subst (λ (Z : SignedSet). IsWithin X Z) f h)

-- all lines hold, by their numbers
all_hold : (L : Logic) (goal : Formula) (table : List (Line Signed)) → HoldBefore L goal table (length table) → All (Holds L goal table) table
all_hold L goal table held k d below = held k (get_or table k d) below (slice_get-get_or table k d below)

module _ (L : Logic) (old : List Formula) (goal : FormId) (table : List (Line SignedId)) (table_live : IsTableLive old table) where
  -- the marks of the goal's subformulas say what may be cut
  marked : (mid : List Formula) → Grows old mid → (marks : List Bool) → AreMarks old goal marks → (s : SignedId) → IsLive old s.form →
      is_marked marks s.form.0 ≡ goal_cuts (tree_at old goal) (signed_at mid s)
  marked mid grown marks m s l =
      Decides_alike {P = IsSubformula (tree_at old s.form) (tree_at old goal)} {Q = Contains (subformulas (tree_at old goal)) (tree_at mid s.form)}
      (is_marked marks s.form.0) (is_subformula (tree_at old goal) (tree_at mid s.form))
      (m.sound s.form, m.complete s.form l)
      (is_member-Decides (subformulas (tree_at old goal)) (tree_at mid s.form))
      (λ h. (subformulas-IsSubformula (tree_at old goal) (tree_at mid s.form)).1 (subst (λ a. IsSubformula a (tree_at old goal)) (sym (grown.same s.form l)) h))
      (λ h. subst (λ a. IsSubformula a (tree_at old goal)) (grown.same s.form l) ((subformulas-IsSubformula (tree_at old goal) (tree_at mid s.form)).0 h))

  line_live : (i : ℕ) → i < length table → IsLineLive old (line_of table i)
  line_live i below = table_live i _ below

  -- what is told of a line in a later pool is so in the first
  told_first : (mid : List Formula) → Grows old mid → (marks : List Bool) → AreMarks old goal marks → (i : ℕ) → i < length table → (b : Bool) →
      TellsHolds L mid marks table (line_of table i) b → IsTrue b ↔ Holds L (tree_at old goal) (table_at old table) (line_at old (line_of table i))
  told_first mid grown marks m i below b told =
      let both = told (tree_at old goal) (marked mid grown marks m (line_of table i).principal (line_live i below).1) in
      let t = table_grows old mid grown table table_live in
      let l = line_grows old mid grown (line_of table i) (line_live i below) in (
        λ e. subst (λ (k : Line Signed). Holds L (tree_at old goal) (table_at old table) k) l
            (subst (λ (T : List (Line Signed)). Holds L (tree_at old goal) T (line_at mid (line_of table i))) t (both.0 e)),
        λ h. both.1 (subst (λ (T : List (Line Signed)). Holds L (tree_at old goal) T (line_at mid (line_of table i))) (sym t)
            (subst (λ (k : Line Signed). Holds L (tree_at old goal) (table_at old table) k) (sym l) h)),
      )

  pub none_before : HoldBefore L (tree_at old goal) (table_at old table) 0
  none_before i line b at = absurd (omega (arith, b))

  module _ (mid : List Formula) (grown : Grows old mid) (marks : List Bool) (m : AreMarks old goal marks) (n : ℕ) (below : n < length table)
      (held : HoldBefore L (tree_at old goal) (table_at old table) n) (b : Bool) (told : TellsHolds L mid marks table (line_of table n) b) where
    -- the next line holds too
    pub next_held : b ≡ true → HoldBefore L (tree_at old goal) (table_at old table) (n + 1)
    next_held e i line less at = elim (cases_lt i n) [ inl before ↦ held i line before at | inr after ↦ last after ]
      where
        last : n ≤ i → Holds L (tree_at old goal) (table_at old table) line
        last after =
            let same : n ≡ i = omega (arith, after, less) in
            subst (λ (k : Line Signed). Holds L (tree_at old goal) (table_at old table) k)
            (one_line (table_at old table) i (line_at old (line_of table n)) line
            (subst (λ j. IsLineAt (table_at old table) j (line_at old (line_of table n))) same (at_number old table n below)) at)
            ((told_first mid grown marks m n below b told).0 e)

    -- or it is the first fault
    pub is_first_fault : (root : ℕ) → b ≡ false → IsSharedVerdict L (table_at old table) root (tree_at old goal) (Rejected n)
    is_first_fault root e =
        (held, inl (line_at old (line_of table n), at_number old table n below, λ h. false≢true (sym e ∙ (told_first mid grown marks m n below b told).1 h)))

  module _ (mid : List Formula) (grown : Grows old mid) (goal_live : IsLive old goal) (root : ℕ) (below : root < length table)
      (held : HoldBefore L (tree_at old goal) (table_at old table) (length table)) (members start : List SignedId) (em : members ≡ (line_of table root).members)
      (es : start ≡ record { sign = F; form = goal } ∷ []) (b : Bool) (tells : IsTrue b ↔ IsWithin (set_of mid members) (set_of mid start)) where
    only_goal : set_of mid start ≡ only (F, tree_at old goal)
    only_goal =
        ap (set_of mid) es
        ∙ (λ i s. or-false (same_signed (F, tree_at mid goal) s) i)
        ∙ ap only (signed_grows old mid grown (record { sign = F; form = goal }) goal_live)

    first_members : set_of mid members ≡ set_of old (line_of table root).members
    first_members = ap (set_of mid) em ∙ ap among (listed_grows old mid grown (line_of table root).members (line_live root below).0)

    root_tells : IsTrue b ↔ IsLineWithin (table_at old table) root (only (F, tree_at old goal))
    root_tells = (
      λ e. line_within old table root (only (F, tree_at old goal)) below (within_moved _ _ _ _ first_members only_goal (tells.0 e)),
      λ w. tells.1 (within_moved _ _ _ _ (sym first_members) (sym only_goal) (within_line old table root (only (F, tree_at old goal)) below w)),
    )

    -- the root's set is within the goal's, so the table is a proof
    pub is_proof : CitesEarlier table → b ≡ true → IsSharedVerdict L (table_at old table) root (tree_at old goal) Accepted
    is_proof earlier e = record {
      earlier = earlier_at old table earlier;
      holds = all_hold L (tree_at old goal) (table_at old table)
          (subst (HoldBefore L (tree_at old goal) (table_at old table)) (sym (length-map table (line_at old))) held);
      root_within = root_tells.0 e;
    }

    -- or that is the fault
    pub is_root_fault : b ≡ false → IsSharedVerdict L (table_at old table) root (tree_at old goal) (Rejected (length table))
    is_root_fault e = (held, inr (sym (length-map table (line_at old)), λ w. false≢true (sym e ∙ root_tells.1 w)))

-- a table is accepted exactly where it is a proof of the goal
pub accepted_exactly : (L : Logic) (table : List (Line Signed)) (root : ℕ) (goal : Formula) (v : SharedVerdict) → IsSharedVerdict L table root goal v → IsAccepted v ↔ SharedProves L table root goal
accepted_exactly L table root goal Accepted h = (λ a. h, λ p. tt)
accepted_exactly L table root goal (Rejected n) h = (λ a. absurd a, λ p. absurd (no_fault p h.1))
  where
    no_fault : SharedProves L table root goal → IsFault L table root goal n → ⊥
    no_fault p (inl (line, at, away)) = away (each_line (Holds L goal table) table n line p.holds at)
    no_fault p (inr (e, away)) = away p.root_within

-- so the goal of what is accepted is valid
pub accepted_valid : (L : Logic) (table : List (Line Signed)) (root : ℕ) (goal : Formula) (v : SharedVerdict) → IsSharedVerdict L table root goal v → IsAccepted v → Valid L goal
accepted_valid L table root goal v h a = shared_valid L table root goal ((accepted_exactly L table root goal v h).0 a)
