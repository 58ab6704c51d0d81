-- The rules over items are those over formulas, where a pool has kept the closure's formulas.
use Rattle.std.proofs.Common.{◌≡◌, ℕ, ◌<◌, Bool, true, nat_eq, ◌&&◌, List, [], ◌∷◌, length, Option, Some, None, inl, inr, refl, sym, ap, subst, ◌∙◌, eqb-true}
use Rattle.std.specs.Bool.{IsTrue, ⊤}
use Rattle.std.specs.List.{list_any}
use Rattle.std.specs.Option.{option_map, option_to_list}
use Rattle.std.proofs.lemmas.Bool.{or_cases, or_left, or_right, and_parts, and_from, false≢true, ltb-true}
use Rattle.lw_formula.specs.declared.logic.Logic.{Logic}
use Rattle.lw_formula.specs.declared.logic.Logic.TheVariants.{K, KT, S4, S5, GL, Grz, K4, KD}
use Rattle.lw_formula.specs.declared.parts.Parts.{Parts}
use Rattle.lw_formula.specs.declared.parts.Parts.TheVariants.{One, Two, Nu, Pi}
use Rattle.lw_formula.specs.declared.sign.Sign.TheVariants.{T, F}
use Rattle.lw_formula.specs.Formula.{Formula, nec, poss}
use Rattle.lw_formula.specs.Signed.{Signed, SignedSet}
use Rattle.lw_formula.specs.Components.{parts_of, guard_of}
use Rattle.lw_pool.specs.Region.{tree_at}
use Rattle.lw_proof.specs.declared.rule.Rule.{Rule}
use Rattle.lw_proof.specs.Tree.{Tree, Forest, node, none, more, map_tree, map_forest}
use Rattle.lw_proof.specs.System.{Set, trees, same_signed, nu_of}
use Rattle.lw_proof.specs.Derivation.{is_one, is_two, is_nu, is_modal_part, side, plus, kept, added, premises, Applies, Closed, ClosedAll, goal_cuts}
use Rattle.lw_proof.proofs.SignedMeaning.{same_signed-Decides}
use Rattle.lw_closure.specs.Mapping.{OfBoth, OfParts, map_parts}
use Rattle.lw_closure.specs.Table.{Table, item_count, entry_at, flip_item, signed_of}
use Rattle.lw_closure.specs.Items.{is_nu_to, items, cuts}
use Rattle.lw_closure.specs.Keeps.{Keeps}
use Rattle.lw_closure.specs.Laws.{ItemsAreFormulas}
use Rattle.lw_closure.proofs.ItemFormulas.{cut_unguarded, is_subformula-true, signed_flip, item_guard, item_modal, item_nu, item_pi, own_item}
use Rattle.lw_closure.proofs.MappedComponents.{is_one-map, is_two-map}
use Rattle.lw_closure.proofs.ItemNumbers.{flip_below, any_below_cases, is_nu_to-true}

-- one formula alone has this component of a ν
only_nu : (s c : Signed) → parts_of s ≡ Nu c → s ≡ nu_of c
only_nu (T, nec a) c e = let f : c ≡ (T, a) = cc in ap nu_of (sym f)
only_nu (F, poss a) c e = let f : c ≡ (F, a) = cc in ap nu_of (sym f)
only_nu _ c e = cc

module _ (ts : List Formula) (t : Table) (keeps : Keeps ts t) where
  abbrev s : ℕ → Signed
  s = signed_of ts t

  abbrev n : ℕ
  n = item_count t

  abbrev parts : ℕ → Parts ℕ
  parts i = (entry_at t i).parts

  abbrev goal : Formula
  goal = tree_at ts t.goal

  abbrev may_cut : SignedSet
  may_cut = goal_cuts goal

  -- the signed formulas of the items of X are in Y
  abbrev pub IsLifted : Set ℕ → SignedSet → Type 0
  IsLifted X Y = (i : ℕ) → IsTrue (X i) → (i < n) × IsTrue (Y (s i))

  abbrev pub AreLifted : List (Set ℕ) → List SignedSet → Type 0
  AreLifted [] [] = ⊤
  AreLifted (X ∷ Xs) (Y ∷ Ys) = IsLifted X Y × AreLifted Xs Ys
  AreLifted _ _ = ⊥

  -- the signed formulas of these items are among those
  abbrev Covers : List ℕ → List Signed → Type 0
  Covers cs ds = (i : ℕ) → list_any (λ c. nat_eq c i) cs ≡ true → (i < n) × (list_any (λ d. same_signed d (s i)) ds ≡ true)

  covers_none : (ds : List Signed) → Covers [] ds
  covers_none ds i e = absurd (false≢true e)

  covers_more : (c : ℕ) (cs : List ℕ) (ds : List Signed) → c < n → Covers cs ds → Covers (c ∷ cs) (s c ∷ ds)
  covers_more c cs ds l cover i e =
      elim (or_cases (nat_eq c i) (list_any (λ k. nat_eq k i) cs) e) [
        | inl here ↦ (
            let q : c ≡ i = eqb-true c i here in
            (subst (λ k. k < n) q l, or_left (same_signed (s c) (s i)) (list_any (λ d. same_signed d (s i)) ds) ((same_signed-Decides (s c) (s i)).1 (ap s q)))
            )
        | inr there ↦ (let h = cover i there in (h.0, or_right (same_signed (s c) (s i)) (list_any (λ d. same_signed d (s i)) ds) h.1))
      ]

  covers_side : (c : ℕ) (d : Option ℕ) → OfBoth (λ j. j < n) (c, d) → Covers (side c d) (side (s c) (option_map s d))
  covers_side c None l = covers_more c [] [] l (covers_none [])
  covers_side c (Some d) l = covers_more c (d ∷ []) (s d ∷ []) l.0 (covers_more d [] [] l.1 (covers_none []))

  covers_guard : (i : ℕ) → i < n → (g : Option ℕ) → (entry_at t i).guard ≡ g → Covers (option_to_list g) (option_to_list (guard_of (s i)))
  covers_guard i l None e = covers_none (option_to_list (guard_of (s i)))
  covers_guard i l (Some k) e =
      subst (λ o. Covers (k ∷ []) (option_to_list o)) (sym (item_guard ts t keeps i k l e).1) (covers_more k [] [] (keeps.table.guard i l k e) (covers_none []))

  covers_added : (L : Logic) (i c : ℕ) → i < n → c < n → Covers (added (items t) L i c) (added trees L (s i) (s c))
  covers_added GL i c l k =
      subst (λ f. Covers (c ∷ flip_item i ∷ []) (s c ∷ f ∷ [])) (signed_flip ts t i)
      (covers_more c (flip_item i ∷ []) (s (flip_item i) ∷ []) k (covers_more (flip_item i) [] [] (flip_below i (length t.forms) l) (covers_none [])))
  covers_added Grz i c l k = covers_more c (option_to_list ((entry_at t i).guard)) (option_to_list (guard_of (s i))) k (covers_guard i l ((entry_at t i).guard) refl)
  covers_added K i c l k = covers_more c [] [] k (covers_none [])
  covers_added KT i c l k = covers_more c [] [] k (covers_none [])
  covers_added S4 i c l k = covers_more c [] [] k (covers_none [])
  covers_added S5 i c l k = covers_more c [] [] k (covers_none [])
  covers_added K4 i c l k = covers_more c [] [] k (covers_none [])
  covers_added KD i c l k = covers_more c [] [] k (covers_none [])

  plus_lifted : (cs : List ℕ) (ds : List Signed) (X : Set ℕ) (Y : SignedSet) → Covers cs ds → IsLifted X Y → IsLifted (plus (items t) cs X) (plus trees ds Y)
  plus_lifted cs ds X Y cover w i e =
      elim (or_cases (list_any (λ c. nat_eq c i) cs) (X i) e) [
        | inl new ↦ (let h = cover i new in (h.0, or_left (list_any (λ d. same_signed d (s i)) ds) (Y (s i)) h.1))
        | inr old ↦ (let h = w i old in (h.0, or_right (list_any (λ d. same_signed d (s i)) ds) (Y (s i)) h.1))
      ]

  under_lifted : (X : Set ℕ) (Y : SignedSet) → IsLifted X Y → IsLifted ((items t).under X) (trees.under Y)
  under_lifted X Y w i e =
      let found = any_below_cases (λ j. X j && is_nu_to i (parts j)) n e in
      let j : ℕ = found.0 in
      let both = and_parts (X j) (is_nu_to i (parts j)) found.2 in
      let q : parts j ≡ Nu i = is_nu_to-true i (parts j) both.1 in
      let h : (j < n) × IsTrue (Y (s j)) = w j both.0 in
      let same : s j ≡ nu_of (s i) = only_nu (s j) (s i) (sym (keeps.parts j h.0) ∙ ap (map_parts s) q) in
      (subst (OfParts (λ k. k < n)) q (keeps.table.parts j h.0), subst (λ x. IsTrue (Y x)) same h.1)

  -- what a test of components says of an item it says of its signed formula
  own_lifted : (test : Parts ℕ → Bool) (told : Parts Signed → Bool) → ((i : ℕ) → i < n → told (parts_of (s i)) ≡ test (parts i)) → (X : Set ℕ) (Y : SignedSet) → IsLifted X Y →
      IsLifted (λ i. test (parts i) && X i) (λ x. told (parts_of x) && Y x)
  own_lifted test told same X Y w i e =
      let both = and_parts (test (parts i)) (X i) e in
      let h : (i < n) × IsTrue (Y (s i)) = w i both.1 in
      (h.0, and_from (told (parts_of (s i))) (Y (s i)) (same i h.0 ∙ both.0) h.1)

  kept_lifted : (L : Logic) (X : Set ℕ) (Y : SignedSet) → IsLifted X Y → IsLifted (kept (items t) L X) (kept trees L Y)
  kept_lifted K X Y w = under_lifted X Y w
  kept_lifted KT X Y w = under_lifted X Y w
  kept_lifted S4 X Y w = own_lifted is_nu is_nu (item_nu ts t keeps) X Y w
  kept_lifted S5 X Y w = own_lifted is_modal_part is_modal_part (item_modal ts t keeps) X Y w
  kept_lifted GL X Y w = λ i e.
      elim (or_cases (is_nu (parts i) && X i) ((items t).under X i) e) [
        | inl own ↦ (let h = own_lifted is_nu is_nu (item_nu ts t keeps) X Y w i own in (h.0, or_left (is_nu (parts_of (s i)) && Y (s i)) (Y (nu_of (s i))) h.1))
        | inr below ↦ (let h = under_lifted X Y w i below in (h.0, or_right (is_nu (parts_of (s i)) && Y (s i)) (Y (nu_of (s i))) h.1))
      ]
  kept_lifted Grz X Y w = own_lifted is_nu is_nu (item_nu ts t keeps) X Y w
  kept_lifted K4 X Y w = λ i e.
      elim (or_cases (is_nu (parts i) && X i) ((items t).under X i) e) [
        | inl own ↦ (let h = own_lifted is_nu is_nu (item_nu ts t keeps) X Y w i own in (h.0, or_left (is_nu (parts_of (s i)) && Y (s i)) (Y (nu_of (s i))) h.1))
        | inr below ↦ (let h = under_lifted X Y w i below in (h.0, or_right (is_nu (parts_of (s i)) && Y (s i)) (Y (nu_of (s i))) h.1))
      ]
  kept_lifted KD X Y w = under_lifted X Y w

  pub premises_lifted : (L : Logic) (r : Rule) (i : ℕ) (p : Parts ℕ) (X : Set ℕ) (Y : SignedSet) → i < n → OfParts (λ j. j < n) p → IsLifted X Y →
      AreLifted (premises (items t) L r i p X) (premises trees L r (s i) (map_parts s p) Y)
  premises_lifted L Rule.One i (One c d) X Y l b w = (plus_lifted (side c d) (side (s c) (option_map s d)) X Y (covers_side c d b) w, tt)
  premises_lifted L Rule.Two i (Two p q) X Y l b w = (
    plus_lifted (side p.0 p.1) (side (s p.0) (option_map s p.1)) X Y (covers_side p.0 p.1 b.0) w,
    (plus_lifted (side q.0 q.1) (side (s q.0) (option_map s q.1)) X Y (covers_side q.0 q.1 b.1) w, tt),
  )
  premises_lifted L Rule.Refl i (Nu c) X Y l b w = (plus_lifted (c ∷ []) (s c ∷ []) X Y (covers_more c [] [] b (covers_none [])) w, tt)
  premises_lifted L Rule.Step i (Pi c) X Y l b w =
      (plus_lifted (added (items t) L i c) (added trees L (s i) (s c)) (kept (items t) L X) (kept trees L Y) (covers_added L i c l b) (kept_lifted L X Y w), tt)
  premises_lifted L Rule.Serial i (Nu c) X Y l b w = (kept_lifted L X Y w, tt)
  premises_lifted L Rule.Cut i p X Y l b w = (
    plus_lifted (i ∷ []) (s i ∷ []) X Y (covers_more i [] [] l (covers_none [])) w,
    (
      subst (λ f. IsLifted (plus (items t) (flip_item i ∷ []) X) (plus trees (f ∷ []) Y)) (signed_flip ts t i)
          (plus_lifted (flip_item i ∷ []) (s (flip_item i) ∷ []) X Y (covers_more (flip_item i) [] [] (flip_below i (length t.forms) l) (covers_none [])) w),
      tt,
    ),
  )
  premises_lifted L _ i p X Y l b w = tt

  pub applies_below : (X : Set ℕ) (Y : SignedSet) → IsLifted X Y → (r : Rule) (i : ℕ) → Applies (items t) (cuts t) t.logic X r i → i < n
  applies_below X Y w Rule.Close i a = (w i a.1).0
  applies_below X Y w Rule.Absurd i a = (w i a.1).0
  applies_below X Y w Rule.One i a = (w i a.1).0
  applies_below X Y w Rule.Two i a = (w i a.1).0
  applies_below X Y w Rule.Refl i a = (w i a.2).0
  applies_below X Y w Rule.Step i a = (w i a.1).0
  applies_below X Y w Rule.Serial i a = (w i a.2).0
  applies_below X Y w Rule.Cut i a = ltb-true i n a.3

  applies_lifted : (X : Set ℕ) (Y : SignedSet) → IsLifted X Y → (r : Rule) (i : ℕ) → i < n → Applies (items t) (cuts t) t.logic X r i → Applies trees may_cut t.logic Y r (s i)
  applies_lifted X Y w Rule.Close i l a = (a.0, (w i a.1).1, subst (λ x. IsTrue (Y x)) (signed_flip ts t i) (w (flip_item i) a.2).1)
  applies_lifted X Y w Rule.Absurd i l a = (sym (keeps.absurd i l) ∙ a.0, (w i a.1).1)
  applies_lifted X Y w Rule.One i l a = (ap is_one (sym (keeps.parts i l)) ∙ is_one-map s (parts i) ∙ a.0, (w i a.1).1)
  applies_lifted X Y w Rule.Two i l a = (ap is_two (sym (keeps.parts i l)) ∙ is_two-map s (parts i) ∙ a.0, (w i a.1).1)
  applies_lifted X Y w Rule.Refl i l a = (a.0, item_nu ts t keeps i l ∙ a.1, (w i a.2).1)
  applies_lifted X Y w Rule.Step i l a = (item_pi ts t keeps i l ∙ a.0, (w i a.1).1)
  applies_lifted X Y w Rule.Serial i l a = (a.0, item_nu ts t keeps i l ∙ a.1, (w i a.2).1)
  applies_lifted X Y w Rule.Cut i l a = (
    a.0,
    a.1,
    item_modal ts t keeps i l ∙ a.2,
    is_subformula-true goal (s i).1 (own_item ts t keeps (cut_unguarded t.logic a.0) i l),
  )

  mutual
    pub closed_lifted : (p : Tree ℕ) (X : Set ℕ) (Y : SignedSet) → IsLifted X Y → Closed (items t) (cuts t) t.logic X p → Closed trees may_cut t.logic Y (map_tree s p)
    closed_lifted (node r i ps) X Y w c =
        let l : i < n = applies_below X Y w r i c.0 in (
          applies_lifted X Y w r i l c.0,
          subst (λ p. ClosedAll trees may_cut t.logic (premises trees t.logic r (s i) p Y) (map_forest s ps)) (keeps.parts i l)
              (all_lifted ps (premises (items t) t.logic r i (parts i) X) (premises trees t.logic r (s i) (map_parts s (parts i)) Y) (premises_lifted t.logic r i (parts i) X Y l (keeps.table.parts i l) w) c.1),
        )

    all_lifted : (ps : Forest ℕ) (Xs : List (Set ℕ)) (Ys : List SignedSet) → AreLifted Xs Ys → ClosedAll (items t) (cuts t) t.logic Xs ps → ClosedAll trees may_cut t.logic Ys (map_forest s ps)
    all_lifted none [] [] w c = tt
    all_lifted none [] (Y ∷ Ys) w c = absurd w
    all_lifted none (X ∷ Xs) Ys w c = absurd c
    all_lifted (more p ps) [] Ys w c = absurd c
    all_lifted (more p ps) (X ∷ Xs) [] w c = absurd w
    all_lifted (more p ps) (X ∷ Xs) (Y ∷ Ys) w c = (closed_lifted p X Y w.0 c.0, all_lifted ps Xs Ys w.1 c.1)

pub lifted : ItemsAreFormulas
lifted ts t keeps X Y w proof c = closed_lifted ts t keeps proof X Y w c
