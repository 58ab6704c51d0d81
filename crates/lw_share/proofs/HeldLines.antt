-- Whether a line holds, by the tests of its rule and of what it cites; and that it is the same in each pool that has grown.
use Rattle.std.proofs.Common.{◌≡◌, ◌↔◌, ℕ, Bool, true, false, List, [], ◌∷◌, map, refl, sym, ap, subst, ◌∙◌}
use Rattle.std.specs.Bool.{IsTrue}
use Rattle.std.proofs.lemmas.Bool.{false≢true}
use Rattle.std.proofs.lemmas.List.Elements.{All-head, All-tail, All-weaker}
use Rattle.lw_formula.specs.declared.logic.Logic.{Logic}
use Rattle.lw_formula.specs.Formula.{Formula}
use Rattle.lw_formula.specs.Signed.{Signed, SignedSet}
use Rattle.lw_formula.specs.Components.{parts_of}
use Rattle.lw_pool.specs.declared.id.SignedId.{SignedId}
use Rattle.lw_pool.specs.Region.{Grows, signed_at, is_marked}
use Rattle.lw_proof.specs.declared.rule.Rule.{Rule}
use Rattle.lw_proof.specs.System.{trees}
use Rattle.lw_proof.specs.Derivation.{premises, Applies, goal_cuts}
use Rattle.lw_sets.specs.IdSets.{among, set_of}
use Rattle.lw_sets.proofs.GrownPools.{signed_grows, listed_grows, IsLive_grows, AreLive_grows}
use Rattle.lw_pool.proofs.RegionGrowth.{Grows-same}
use Rattle.lw_share.specs.Lines.{Line}
use Rattle.lw_share.specs.Pooled.{line_at, table_at, IsLineLive, IsTableLive}
use Rattle.lw_share.specs.SharedProofs.{CiteEach}
use Rattle.lw_share.specs.Private.PremiseLists.{HaveOneSet, ArePremises, TellsApplies, TellsHolds}

pub line_grows : (now ts : List Formula) → Grows now ts → (line : Line SignedId) → IsLineLive now line → line_at ts line ≡ line_at now line
line_grows now ts g line l = λ i. record {
  members = listed_grows now ts g line.members l.0 i;
  rule = line.rule;
  principal = signed_grows now ts g line.principal l.1 i;
  cites = line.cites;
}

pub table_grows : (now ts : List Formula) → Grows now ts → (table : List (Line SignedId)) → IsTableLive now table → table_at ts table ≡ table_at now table
table_grows now ts g [] l = refl
table_grows now ts g (k ∷ ks) l = λ i.
    line_grows now ts g k (All-head (IsLineLive now) k ks l) i ∷ table_grows now ts g ks (All-tail (IsLineLive now) k ks l) i

pub IsTableLive_grows : (now ts : List Formula) → Grows now ts → (table : List (Line SignedId)) → IsTableLive now table → IsTableLive ts table
IsTableLive_grows now ts g table l =
    All-weaker (IsLineLive now) (IsLineLive ts) (λ k h. (AreLive_grows now ts g k.members h.0, IsLive_grows now ts g k.principal.form h.1)) table l

pub cited_moved : (T U : List (Line Signed)) (c d : List ℕ) (Xs Ys : List SignedSet) → T ≡ U → c ≡ d → Xs ≡ Ys → CiteEach T c Xs → CiteEach U d Ys
cited_moved T U c d Xs Ys t e p h =
    subst (λ (Zs : List SignedSet). CiteEach U d Zs) p (subst (λ (k : List ℕ). CiteEach U k Xs) e (subst (λ (V : List (Line Signed)). CiteEach V c Xs) t h))

pub applies_moved : (C : SignedSet) (L : Logic) (X Y : SignedSet) (r q : Rule) (s t : Signed) → X ≡ Y → r ≡ q → s ≡ t → Applies trees C L X r s → Applies trees C L Y q t
applies_moved C L X Y r q s t x e p h =
    subst (λ (u : Signed). Applies trees C L Y q u) p (subst (λ (k : Rule). Applies trees C L Y k s) e (subst (λ (Z : SignedSet). Applies trees C L Z r s) x h))

module _ (L : Logic) (now : List Formula) (marks : List Bool) (table : List (Line SignedId)) (line : Line SignedId) (live : IsLineLive now line)
    (r : Rule) (x : SignedId) (ms items : List SignedId) (er : r ≡ line.rule) (ex : x ≡ line.principal) (em : ms ≡ line.members) (one : HaveOneSet ms items)
    (told : Bool) (tells : TellsApplies L now marks items r x told) where
  same_set : set_of now items ≡ set_of now line.members
  same_set = one now ∙ ap (set_of now) em

  -- the rule's test is told for the line
  for_line : (goal : Formula) → is_marked marks line.principal.form.0 ≡ goal_cuts goal (signed_at now line.principal) →
      IsTrue told ↔ Applies trees (goal_cuts goal) L (set_of now line.members) line.rule (signed_at now line.principal)
  for_line goal m =
      let both = tells (goal_cuts goal) (ap (λ (y : SignedId). is_marked marks y.form.0) ex ∙ m ∙ ap (λ (y : SignedId). goal_cuts goal (signed_at now y)) (sym ex)) in (
        λ e. applies_moved (goal_cuts goal) L (set_of now items) (set_of now line.members) r line.rule (signed_at now x) (signed_at now line.principal)
            same_set er (ap (signed_at now) ex) (both.0 e),
        λ h. both.1 (applies_moved (goal_cuts goal) L (set_of now line.members) (set_of now items) line.rule r (signed_at now line.principal) (signed_at now x)
            (sym same_set) (sym er) (sym (ap (signed_at now) ex)) h),
      )

  -- a line whose rule may not be used
  pub not_applied : told ≡ false → TellsHolds L now marks table line false
  not_applied e goal m = (λ f. absurd (false≢true f), λ h. absurd (false≢true (sym e ∙ (for_line goal m).1 h.0)))

  module _ (applied : told ≡ true) (later : List Formula) (grown : Grows now later) (table_live : IsTableLive now table) (lists : List (List SignedId))
      (left : ArePremises L later r x items lists) (cites : List ℕ) (ec : cites ≡ line.cites) (b : Bool)
      (cited : IsTrue b ↔ CiteEach (table_at later table) cites (map (set_of later) lists)) where
    same_premises : map (set_of later) lists ≡ premises trees L line.rule (signed_at now line.principal) (parts_of (signed_at now line.principal)) (set_of now line.members)
    same_premises =
        left later (Grows-same later)
        ∙ (λ i. premises trees L (er i) (signed_at later (ex i)) (parts_of (signed_at later (ex i))) ((one later ∙ ap (set_of later) em) i))
        ∙ (λ i. premises trees L line.rule (signed_grows now later grown line.principal live.1 i) (parts_of (signed_grows now later grown line.principal live.1 i))
        (among (listed_grows now later grown line.members live.0 i)))

    -- a line whose rule may be used, by what it cites
    pub applied_cited : TellsHolds L now marks table line b
    applied_cited goal m = (
      λ e. (
        (for_line goal m).0 applied,
        cited_moved (table_at later table) (table_at now table) cites line.cites _ _ (table_grows now later grown table table_live) ec same_premises (cited.0 e),
      ),
      λ h. cited.1 (cited_moved (table_at now table) (table_at later table) line.cites cites _ _ (sym (table_grows now later grown table table_live)) (sym ec) (sym same_premises) h.1),
    )
