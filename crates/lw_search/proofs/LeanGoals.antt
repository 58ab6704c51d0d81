-- A proof that closes the goal's item is a lean proof of the goal, read with the formulas of a pool that has kept the closure's.
use Rattle.std.proofs.Common.{◌≡◌, ℕ, ◌+◌, ◌/◌, ◌^◌, ◌<◌, ◌≤◌, false, nat_eq, ◌&&◌, List, [], ◌∷◌, Option, Some, None, inl, inr, refl, sym, ap, subst, ◌∙◌, arith, eqb-true, eq-eqb}
use Rattle.std.specs.Bool.{IsTrue, ⊤}
use Rattle.std.specs.List.{list_any}
use Rattle.std.specs.Option.{option_map, option_to_list}
use Rattle.std.proofs.lemmas.Bool.{or_cases, or_left, and_parts, false≢true}
use Rattle.lw_formula.specs.declared.logic.Logic.{Logic}
use Rattle.lw_formula.specs.declared.logic.Logic.TheVariants.{K, KT, S4, S5, GL, Grz, K4, KD}
use Rattle.lw_formula.specs.declared.parts.Parts.{Parts}
use Rattle.lw_formula.specs.declared.parts.Parts.TheVariants.{One, Two, Nu, Pi}
use Rattle.lw_formula.specs.declared.sign.Sign.TheVariants.{F}
use Rattle.lw_formula.specs.Formula.{Formula, modal_count, IsSubformula}
use Rattle.lw_formula.specs.Signed.{Signed, SignedSet}
use Rattle.lw_formula.specs.Components.{parts_of, guard_of}
use Rattle.lw_formula.proofs.SubformulaLists.{IsSubformula-refl}
use Rattle.lw_pool.specs.declared.id.SignedId.{SignedId}
use Rattle.lw_pool.specs.Region.{tree_at, signed_at, IsLive}
use Rattle.lw_proof.specs.declared.rule.Rule.{Rule}
use Rattle.lw_proof.specs.Tree.{Tree, Forest, node, none, more, map_tree, map_forest}
use Rattle.lw_proof.specs.System.{Set, trees}
use Rattle.lw_proof.specs.Derivation.{is_nu, is_modal_part, side, plus, kept, added, premises, Applies, ClosedAll, only}
use Rattle.lw_proof.specs.Lean.{steps, HasNew, AllHaveNew, Gains, Grows, GrowAll, Lean}
use Rattle.lw_proof.specs.Pooled.{proof_at, IsProofLive}
use Rattle.lw_proof.proofs.MappedProofs.{twice_mapped, steps_mapped, each_mapped}
use Rattle.lw_proof.proofs.SignedMeaning.{same_signed-Decides}
use Rattle.lw_closure.specs.Mapping.{OfBoth, OfParts, map_parts}
use Rattle.lw_closure.specs.Table.{Table, item_count, entry_at, flip_item, item_at, signed_of}
use Rattle.lw_closure.specs.Items.{is_nu_to, items, cuts, ItemDerives}
use Rattle.lw_closure.specs.Keeps.{Keeps}
use Rattle.lw_closure.proofs.ItemFormulas.{cut_unguarded, signed_flip, same_item, own_guard, own_item, item_pi}
use Rattle.lw_closure.proofs.RulesOverItems.{lifted, IsLifted, AreLifted, applies_below, premises_lifted}
use Rattle.lw_closure.proofs.ItemNumbers.{any_below_cases, is_nu_to-true}
use Rattle.lw_closure.proofs.PremiseOrigins.{IsFrom, AreFrom, IsOwnStep, premises_from}
use Rattle.lw_closure.proofs.OwnPis.{IsOwnPi, nu_no_pi, guard_nu, own_components}
use Rattle.lw_sat.specs.Sets.{among}
use Rattle.lw_sat.specs.Closing.{Closes}
use Rattle.lw_search.specs.Ranked.{IsGoal}

module _ (ts : List Formula) (t : Table) (keeps : Keeps ts t) where
  abbrev s : ℕ → Signed
  s = signed_of ts t

  abbrev n : ℕ
  n = item_count t

  abbrev parts : ℕ → Parts ℕ
  parts i = (entry_at t i).parts

  abbrev goal : Formula
  goal = tree_at ts t.goal

  abbrev Lifted : Set ℕ → SignedSet → Type 0
  Lifted X Y = IsLifted ts t keeps X Y

  abbrev AllLifted : List (Set ℕ) → List SignedSet → Type 0
  AllLifted Xs Ys = AreLifted ts t keeps Xs Ys

  -- where each signed formula of Y is that of an item of X
  abbrev From : Set ℕ → SignedSet → Type 0
  From X Y = IsFrom ts t keeps X Y

  abbrev AllFrom : List (Set ℕ) → List SignedSet → Type 0
  AllFrom Xs Ys = AreFrom ts t keeps Xs Ys

  abbrev OwnStep : Rule → ℕ → Type 0
  OwnStep r i = IsOwnStep ts t keeps r i

  -- each π of the set is one of the goal's formulas
  abbrev IsGood : Set ℕ → Type 0
  IsGood X = (i : ℕ) → IsTrue (X i) → IsOwnPi goal (s i)

  abbrev AreGood : List (Set ℕ) → Type 0
  AreGood [] = ⊤
  AreGood (X ∷ Xs) = IsGood X × AreGood Xs

  -- a derivation comes from good sets to good ones alone
  abbrev ListGood : List ℕ → Type 0
  ListGood cs = IsGood (λ i. list_any (λ c. nat_eq c i) cs)

  good_none : ListGood []
  good_none i e = absurd (false≢true e)

  good_more : (c : ℕ) (cs : List ℕ) → IsOwnPi goal (s c) → ListGood cs → ListGood (c ∷ cs)
  good_more c cs g h i e = elim (or_cases (nat_eq c i) (list_any (λ k. nat_eq k i) cs) e) [
    | inl here ↦ subst (λ k. IsOwnPi goal (s k)) (eqb-true c i here) g
    | inr there ↦ h i there
  ]

  good_side : (c : ℕ) (d : Option ℕ) → OfBoth (λ j. IsOwnPi goal (s j)) (c, d) → ListGood (side c d)
  good_side c None g = good_more c [] g good_none
  good_side c (Some d) g = good_more c (d ∷ []) g.0 (good_more d [] g.1 good_none)

  good_flip : (i : ℕ) → IsSubformula (s i).1 goal → IsOwnPi goal (s (flip_item i))
  good_flip i own = subst (IsOwnPi goal) (sym (signed_flip ts t i)) (λ _. own)

  good_guard : (i : ℕ) (g : Option ℕ) → option_map s g ≡ guard_of (s i) → ListGood (option_to_list g)
  good_guard i None e = good_none
  good_guard i (Some k) e = good_more k [] (λ pi. absurd (nu_no_pi (parts_of (s k)) (guard_nu (s i) (s k) (sym e)) pi)) good_none

  good_added : (L : Logic) (i c : ℕ) → t.logic ≡ L → i < n → IsSubformula (s i).1 goal → IsOwnPi goal (s c) → ListGood (added (items t) L i c)
  good_added GL i c q l own g = good_more c (flip_item i ∷ []) g (good_more (flip_item i) [] (good_flip i own) good_none)
  good_added Grz i c q l own g = good_more c (option_to_list (entry_at t i).guard) g (good_guard i (entry_at t i).guard (own_guard ts t keeps i q l own))
  good_added K i c q l own g = good_more c [] g good_none
  good_added KT i c q l own g = good_more c [] g good_none
  good_added S4 i c q l own g = good_more c [] g good_none
  good_added S5 i c q l own g = good_more c [] g good_none
  good_added K4 i c q l own g = good_more c [] g good_none
  good_added KD i c q l own g = good_more c [] g good_none

  plus_good : (cs : List ℕ) (X : Set ℕ) → ListGood cs → IsGood X → IsGood (plus (items t) cs X)
  plus_good cs X new old i e = elim (or_cases (list_any (λ c. nat_eq c i) cs) (X i) e) [ inl a ↦ new i a | inr b ↦ old i b ]

  under_good : (X : Set ℕ) → IsGood ((items t).under X)
  under_good X i e =
      let found = any_below_cases (λ j. X j && is_nu_to i (parts j)) n e in
      let both = and_parts (X found.0) (is_nu_to i (parts found.0)) found.2 in
      subst (OfParts (λ j. IsOwnPi goal (s j))) (is_nu_to-true i (parts found.0) both.1) (own_components ts t keeps found.0 found.1)

  kept_good : (L : Logic) (X : Set ℕ) → IsGood X → IsGood (kept (items t) L X)
  kept_good K X h = under_good X
  kept_good KT X h = under_good X
  kept_good S4 X h = λ i e. h i (and_parts (is_nu (parts i)) (X i) e).1
  kept_good S5 X h = λ i e. h i (and_parts (is_modal_part (parts i)) (X i) e).1
  kept_good Grz X h = λ i e. h i (and_parts (is_nu (parts i)) (X i) e).1
  kept_good GL X h = λ i e. elim (or_cases (is_nu (parts i) && X i) ((items t).under X i) e) [
    | inl own ↦ h i (and_parts (is_nu (parts i)) (X i) own).1
    | inr below ↦ under_good X i below
  ]
  kept_good K4 X h = λ i e. elim (or_cases (is_nu (parts i) && X i) ((items t).under X i) e) [
    | inl own ↦ h i (and_parts (is_nu (parts i)) (X i) own).1
    | inr below ↦ under_good X i below
  ]
  kept_good KD X h = under_good X

  -- a Cut is on one of the goal's formulas
  abbrev IsOwnCut : Rule → ℕ → Type 0
  IsOwnCut Rule.Cut i = IsSubformula (s i).1 goal
  IsOwnCut _ i = ⊤

  premises_good : (r : Rule) (i : ℕ) (p : Parts ℕ) (X : Set ℕ) → i < n → OwnStep r i → IsOwnCut r i → OfParts (λ j. IsOwnPi goal (s j)) p → IsGood X →
      AreGood (premises (items t) t.logic r i p X)
  premises_good Rule.One i (One c d) X l o u g h = (plus_good (side c d) X (good_side c d g) h, tt)
  premises_good Rule.Two i (Two p q) X l o u g h = (plus_good (side p.0 p.1) X (good_side p.0 p.1 g.0) h, (plus_good (side q.0 q.1) X (good_side q.0 q.1 g.1) h, tt))
  premises_good Rule.Refl i (Nu c) X l o u g h = (plus_good (c ∷ []) X (good_more c [] g good_none) h, tt)
  premises_good Rule.Step i (Pi c) X l o u g h = (plus_good (added (items t) t.logic i c) (kept (items t) t.logic X) (good_added t.logic i c refl l o g) (kept_good t.logic X h), tt)
  premises_good Rule.Serial i (Nu c) X l o u g h = (kept_good t.logic X h, tt)
  premises_good Rule.Cut i p X l o u g h =
      (plus_good (i ∷ []) X (good_more i [] (λ _. u) good_none) h, (plus_good (flip_item i ∷ []) X (good_more (flip_item i) [] (good_flip i u) good_none) h, tt))
  premises_good _ i p X l o u g h = tt

  -- what a rule is used on
  own_step : (r : Rule) (i : ℕ) (X : Set ℕ) → i < n → IsGood X → Applies (items t) (cuts t) t.logic X r i → OwnStep r i
  own_step Rule.Step i X l h a = h i a.1 (item_pi ts t keeps i l ∙ a.0)
  own_step _ i X l h a = tt

  own_cut : (r : Rule) (i : ℕ) (X : Set ℕ) → i < n → Applies (items t) (cuts t) t.logic X r i → IsOwnCut r i
  own_cut Rule.Cut i X l a = own_item ts t keeps (cut_unguarded t.logic a.0) i l
  own_cut _ i X l a = tt

  -- what is new among items is new among their signed formulas
  new_lifted : (X Z : Set ℕ) (Y V : SignedSet) → Lifted X Y → From X Y → Lifted Z V → HasNew X Z → HasNew Y V
  new_lifted X Z Y V w h v new = (
    s new.0,
    (v new.0 new.1).1,
    λ old. (
        let r = h (s new.0) old in
        let same : r.0 ≡ new.0 = same_item ts t keeps r.0 new.0 (w r.0 r.1).0 (v new.0 new.1).0 r.2 in
        new.2 (subst (λ k. IsTrue (X k)) same r.1)
        ),
  )

  all_new_lifted : (X : Set ℕ) (Y : SignedSet) → Lifted X Y → From X Y → (Zs : List (Set ℕ)) (Vs : List SignedSet) → AllLifted Zs Vs → AllHaveNew X Zs → AllHaveNew Y Vs
  all_new_lifted X Y w h [] [] v new = tt
  all_new_lifted X Y w h [] (V ∷ Vs) v new = absurd v
  all_new_lifted X Y w h (Z ∷ Zs) [] v new = absurd v
  all_new_lifted X Y w h (Z ∷ Zs) (V ∷ Vs) v new = (new_lifted X Z Y V w h v.0 new.0, all_new_lifted X Y w h Zs Vs v.1 new.1)

  gains_lifted : (r : Rule) (X : Set ℕ) (Y : SignedSet) → Lifted X Y → From X Y → (Zs : List (Set ℕ)) (Vs : List SignedSet) → AllLifted Zs Vs → Gains r X Zs → Gains r Y Vs
  gains_lifted Rule.Step X Y w h Zs Vs v new = tt
  gains_lifted Rule.Serial X Y w h Zs Vs v new = tt
  gains_lifted _ X Y w h Zs Vs v new = all_new_lifted X Y w h Zs Vs v new

  mutual
    grows_lifted : (p : Tree ℕ) (X : Set ℕ) (Y : SignedSet) → Lifted X Y → From X Y → IsGood X → ItemDerives t X p → Grows (items t) t.logic X p → Grows trees t.logic Y (map_tree s p)
    grows_lifted (node r i ps) X Y w h g c new =
        let l : i < n = applies_below ts t keeps X Y w r i c.0 in
        let o : OwnStep r i = own_step r i X l g c.0 in
        let Zs : List (Set ℕ) = premises (items t) t.logic r i (parts i) X in
        let Vs : List SignedSet = premises trees t.logic r (s i) (map_parts s (parts i)) Y in
        let v : AllLifted Zs Vs = premises_lifted ts t keeps t.logic r i (parts i) X Y l (keeps.table.parts i l) w in
        let P : Parts Signed → Type 0 = λ p. Gains r Y (premises trees t.logic r (s i) p Y) × GrowAll trees t.logic (premises trees t.logic r (s i) p Y) (map_forest s ps) in
        subst P (keeps.parts i l) (
          gains_lifted r X Y w h Zs Vs v new.0,
          all_grow ps Zs Vs v (premises_from ts t keeps r i (parts i) X Y l o w h) (premises_good r i (parts i) X l o (own_cut r i X l c.0) (own_components ts t keeps i l) g) c.1 new.1,
        )

    all_grow : (ps : Forest ℕ) (Xs : List (Set ℕ)) (Ys : List SignedSet) → AllLifted Xs Ys → AllFrom Xs Ys → AreGood Xs → ClosedAll (items t) (cuts t) t.logic Xs ps → GrowAll (items t) t.logic Xs ps →
        GrowAll trees t.logic Ys (map_forest s ps)
    all_grow none [] [] w h g c new = tt
    all_grow none [] (Y ∷ Ys) w h g c new = tt
    all_grow none (X ∷ Xs) [] w h g c new = tt
    all_grow none (X ∷ Xs) (Y ∷ Ys) w h g c new = tt
    all_grow (more p ps) [] Ys w h g c new = absurd c
    all_grow (more p ps) (X ∷ Xs) [] w h g c new = absurd w
    all_grow (more p ps) (X ∷ Xs) (Y ∷ Ys) w h g c new = (grows_lifted p X Y w.0 h.0 g.0 c.0 new.0, all_grow ps Xs Ys w.1 h.1 g.1 c.1 new.1)

  -- the goal's item alone
  module _ (item : ℕ) (below : item < n) (is : s item ≡ (F, goal)) where
    goal_lifted : Lifted (among (item ∷ [])) (only (F, goal))
    goal_lifted i e = elim (or_cases (nat_eq item i) false e) [
      | inl here ↦ (
          let q : item ≡ i = eqb-true item i here in
          (subst (λ k. k < n) q below, (same_signed-Decides (F, goal) (s i)).1 (sym is ∙ ap s q))
          )
      | inr other ↦ absurd (false≢true other)
    ]

    goal_from : From (among (item ∷ [])) (only (F, goal))
    goal_from x e = (item, or_left (nat_eq item item) false (eq-eqb item item refl), is ∙ (same_signed-Decides (F, goal) x).0 e)

    goal_good : IsGood (among (item ∷ []))
    goal_good = good_more item [] (λ _. subst (λ (x : Signed). IsSubformula x.1 goal) (sym is) (IsSubformula-refl goal)) good_none

    goal_lean : (p : Tree ℕ) → ItemDerives t (among (item ∷ [])) p → Grows (items t) t.logic (among (item ∷ [])) p → steps p ≤ (modal_count goal + 1) ^ 2 → Lean t.logic (map_tree s p) goal
    goal_lean p c new few = record {
      proves = lifted ts t keeps (among (item ∷ [])) (only (F, goal)) goal_lifted p c;
      grows = grows_lifted p (among (item ∷ [])) (only (F, goal)) goal_lifted goal_from goal_good c new;
      few_steps = omega (arith, steps_mapped s p);
    }

  live_item : (i : ℕ) → i < n → IsLive ts (item_at t i).form
  live_item i l = keeps.live (i / 2) (record { 0 = 0 }) (omega arith)

  -- a proof that closes the goal's item, with few enough Steps on a path, is live and lean
  pub closes_lean : (X : Set ℕ) (p : Tree SignedId) → IsGoal ts t X → Closes t X p → steps p ≤ (modal_count goal + 1) ^ 2 → IsProofLive ts p × Lean t.logic (proof_at ts p) goal
  closes_lean X p at c few =
      subst (λ q. IsProofLive ts q × Lean t.logic (proof_at ts q) goal) c.named (
        each_mapped (item_at t) (λ i. i < n) (λ x. IsLive ts x.form) live_item c.tree c.principals,
        subst (λ q. Lean t.logic q goal) (sym (twice_mapped (item_at t) (signed_at ts) c.tree))
            (goal_lean at.item at.below at.signed c.tree (subst (λ Z. ItemDerives t Z c.tree) at.only c.closes) (subst (λ Z. Grows (items t) t.logic Z c.tree) at.only c.grows)
            (let one : steps c.tree ≡ steps (map_tree (item_at t) c.tree) = sym (steps_mapped (item_at t) c.tree) in let other : steps (map_tree (item_at t) c.tree) ≡ steps p = ap steps c.named in omega arith)),
      )
