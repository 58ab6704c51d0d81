-- What the rules over formulas leave comes from what the rules over items leave, where a pool has kept the closure's formulas.
use Rattle.std.proofs.Common.{◌≡◌, ℕ, ◌<◌, Bool, nat_eq, ◌&&◌, List, [], ◌∷◌, Option, Some, None, inl, inr, refl, sym, ap, subst, ◌∙◌, eq-eqb}
use Rattle.std.specs.Bool.{IsTrue, ⊤}
use Rattle.std.specs.List.{list_any}
use Rattle.std.specs.Option.{option_map, option_to_list}
use Rattle.std.proofs.lemmas.Bool.{or_cases, or_left, or_right, and_parts, and_from, false≢true}
use Rattle.lw_formula.specs.declared.logic.Logic.{Logic}
use Rattle.lw_formula.specs.declared.logic.Logic.TheVariants.{K, KT, S4, S5, GL, Grz, K4, KD}
use Rattle.lw_formula.specs.declared.parts.Parts.{Parts}
use Rattle.lw_formula.specs.declared.parts.Parts.TheVariants.{One, Two, Nu, Pi}
use Rattle.lw_formula.specs.declared.sign.Sign.TheVariants.{T, F}
use Rattle.lw_formula.specs.Formula.{Formula, IsSubformula}
use Rattle.lw_formula.specs.Signed.{Signed, SignedSet}
use Rattle.lw_formula.specs.Components.{parts_of, guard_of}
use Rattle.lw_pool.specs.Region.{tree_at}
use Rattle.lw_proof.specs.declared.rule.Rule.{Rule}
use Rattle.lw_proof.specs.System.{Set, trees, same_signed, nu_of}
use Rattle.lw_proof.specs.Derivation.{is_nu, is_modal_part, side, plus, kept, added, premises}
use Rattle.lw_proof.proofs.SignedMeaning.{same_signed-Decides}
use Rattle.lw_closure.specs.Mapping.{map_parts}
use Rattle.lw_closure.specs.Table.{Table, item_count, entry_at, flip_item, signed_of}
use Rattle.lw_closure.specs.Items.{is_nu_to, items}
use Rattle.lw_closure.specs.Keeps.{Keeps}
use Rattle.lw_closure.proofs.ItemFormulas.{signed_flip, own_guard, item_modal, item_nu}
use Rattle.lw_closure.proofs.RulesOverItems.{IsLifted}
use Rattle.lw_closure.proofs.MappedComponents.{nu_before}
use Rattle.lw_closure.proofs.ItemNumbers.{any_below-found, is_nu_to-same}

-- the one component of a ν
nu_of-parts : (s : Signed) → parts_of (nu_of s) ≡ Nu s
nu_of-parts (T, a) = refl
nu_of-parts (F, a) = refl

module _ (ts : List Formula) (t : Table) (keeps : Keeps ts t) where
  abbrev s : ℕ → Signed
  s = signed_of ts t

  abbrev n : ℕ
  n = item_count t

  abbrev parts : ℕ → Parts ℕ
  parts i = (entry_at t i).parts

  abbrev goal : Formula
  goal = tree_at ts t.goal

  abbrev Lifted : Set ℕ → SignedSet → Type 0
  Lifted X Y = IsLifted ts t keeps X Y

  -- each signed formula of Y is that of an item of X
  abbrev pub IsFrom : Set ℕ → SignedSet → Type 0
  IsFrom X Y = (x : Signed) → IsTrue (Y x) → (i : ℕ) × IsTrue (X i) × (s i ≡ x)

  abbrev pub AreFrom : List (Set ℕ) → List SignedSet → Type 0
  AreFrom [] [] = ⊤
  AreFrom (X ∷ Xs) (Y ∷ Ys) = IsFrom X Y × AreFrom Xs Ys
  AreFrom _ _ = ⊥

  -- these signed formulas are those of these items
  abbrev ListFrom : List ℕ → List Signed → Type 0
  ListFrom cs ds = IsFrom (λ i. list_any (λ c. nat_eq c i) cs) (λ x. list_any (λ d. same_signed d x) ds)

  from_none : (cs : List ℕ) → ListFrom cs []
  from_none cs x e = absurd (false≢true e)

  from_more : (c : ℕ) (cs : List ℕ) (ds : List Signed) → ListFrom cs ds → ListFrom (c ∷ cs) (s c ∷ ds)
  from_more c cs ds h x e = elim (or_cases (same_signed (s c) x) (list_any (λ d. same_signed d x) ds) e) [
    | inl here ↦ (c, or_left (nat_eq c c) (list_any (λ k. nat_eq k c) cs) (eq-eqb c c refl), (same_signed-Decides (s c) x).0 here)
    | inr there ↦ (let r = h x there in (r.0, or_right (nat_eq c r.0) (list_any (λ k. nat_eq k r.0) cs) r.1, r.2))
  ]

  from_side : (c : ℕ) (d : Option ℕ) → ListFrom (side c d) (side (s c) (option_map s d))
  from_side c None = from_more c [] [] (from_none [])
  from_side c (Some d) = from_more c (d ∷ []) (s d ∷ []) (from_more d [] [] (from_none []))

  from_options : (g : Option ℕ) → ListFrom (option_to_list g) (option_to_list (option_map s g))
  from_options None = from_none []
  from_options (Some k) = from_more k [] [] (from_none [])

  from_added : (L : Logic) (i c : ℕ) → t.logic ≡ L → i < n → IsSubformula (s i).1 goal → ListFrom (added (items t) L i c) (added trees L (s i) (s c))
  from_added GL i c q l own =
      subst (λ f. ListFrom (c ∷ flip_item i ∷ []) (s c ∷ f ∷ [])) (signed_flip ts t i)
      (from_more c (flip_item i ∷ []) (s (flip_item i) ∷ []) (from_more (flip_item i) [] [] (from_none [])))
  from_added Grz i c q l own =
      from_more c (option_to_list (entry_at t i).guard) (option_to_list (guard_of (s i)))
      (subst (λ o. ListFrom (option_to_list (entry_at t i).guard) (option_to_list o)) (own_guard ts t keeps i q l own) (from_options (entry_at t i).guard))
  from_added _ i c q l own = from_more c [] [] (from_none [])

  plus_from : (cs : List ℕ) (ds : List Signed) (X : Set ℕ) (Y : SignedSet) → ListFrom cs ds → IsFrom X Y → IsFrom (plus (items t) cs X) (plus trees ds Y)
  plus_from cs ds X Y new old x e = elim (or_cases (list_any (λ d. same_signed d x) ds) (Y x) e) [
    | inl a ↦ (let r = new x a in (r.0, or_left (list_any (λ c. nat_eq c r.0) cs) (X r.0) r.1, r.2))
    | inr b ↦ (let r = old x b in (r.0, or_right (list_any (λ c. nat_eq c r.0) cs) (X r.0) r.1, r.2))
  ]

  under_from : (X : Set ℕ) (Y : SignedSet) → Lifted X Y → IsFrom X Y → IsFrom ((items t).under X) (trees.under Y)
  under_from X Y w h x e =
      let d = h (nu_of x) e in
      let l : d.0 < n = (w d.0 d.1).0 in
      let b = nu_before s (parts d.0) x (keeps.parts d.0 l ∙ ap parts_of d.2 ∙ nu_of-parts x) in (
        b.0,
        any_below-found (λ j. X j && is_nu_to b.0 (parts j)) n d.0 l (and_from (X d.0) (is_nu_to b.0 (parts d.0)) d.1 (ap (is_nu_to b.0) b.1 ∙ is_nu_to-same b.0)),
        b.2,
      )

  -- what a test of components says of an item of X it says of its signed formula
  own_from : (test : Parts ℕ → Bool) (told : Parts Signed → Bool) → ((i : ℕ) → i < n → told (parts_of (s i)) ≡ test (parts i)) → (X : Set ℕ) (Y : SignedSet) → Lifted X Y → IsFrom X Y →
      IsFrom (λ i. test (parts i) && X i) (λ x. told (parts_of x) && Y x)
  own_from test told same X Y w h x e =
      let both = and_parts (told (parts_of x)) (Y x) e in
      let d = h x both.1 in
      (d.0, and_from (test (parts d.0)) (X d.0) (sym (same d.0 (w d.0 d.1).0) ∙ ap (λ y. told (parts_of y)) d.2 ∙ both.0) d.1, d.2)

  -- so are those that a step keeps
  pub kept_from : (L : Logic) (X : Set ℕ) (Y : SignedSet) → Lifted X Y → IsFrom X Y → IsFrom (kept (items t) L X) (kept trees L Y)
  kept_from K X Y w h = under_from X Y w h
  kept_from KT X Y w h = under_from X Y w h
  kept_from S4 X Y w h = own_from is_nu is_nu (item_nu ts t keeps) X Y w h
  kept_from S5 X Y w h = own_from is_modal_part is_modal_part (item_modal ts t keeps) X Y w h
  kept_from Grz X Y w h = own_from is_nu is_nu (item_nu ts t keeps) X Y w h
  kept_from GL X Y w h = λ x e. elim (or_cases (is_nu (parts_of x) && Y x) (Y (nu_of x)) e) [
    | inl own ↦ (let r = own_from is_nu is_nu (item_nu ts t keeps) X Y w h x own in (r.0, or_left (is_nu (parts r.0) && X r.0) ((items t).under X r.0) r.1, r.2))
    | inr below ↦ (let r = under_from X Y w h x below in (r.0, or_right (is_nu (parts r.0) && X r.0) ((items t).under X r.0) r.1, r.2))
  ]
  kept_from K4 X Y w h = λ x e. elim (or_cases (is_nu (parts_of x) && Y x) (Y (nu_of x)) e) [
    | inl own ↦ (let r = own_from is_nu is_nu (item_nu ts t keeps) X Y w h x own in (r.0, or_left (is_nu (parts r.0) && X r.0) ((items t).under X r.0) r.1, r.2))
    | inr below ↦ (let r = under_from X Y w h x below in (r.0, or_right (is_nu (parts r.0) && X r.0) ((items t).under X r.0) r.1, r.2))
  ]
  kept_from KD X Y w h = under_from X Y w h

  -- a Step is on one of the goal's formulas
  abbrev pub IsOwnStep : Rule → ℕ → Type 0
  IsOwnStep Rule.Step i = IsSubformula (s i).1 goal
  IsOwnStep _ i = ⊤

  pub premises_from : (r : Rule) (i : ℕ) (p : Parts ℕ) (X : Set ℕ) (Y : SignedSet) → i < n → IsOwnStep r i → Lifted X Y → IsFrom X Y →
      AreFrom (premises (items t) t.logic r i p X) (premises trees t.logic r (s i) (map_parts s p) Y)
  premises_from Rule.One i (One c d) X Y l o w h = (plus_from (side c d) (side (s c) (option_map s d)) X Y (from_side c d) h, tt)
  premises_from Rule.Two i (Two p q) X Y l o w h = (
    plus_from (side p.0 p.1) (side (s p.0) (option_map s p.1)) X Y (from_side p.0 p.1) h,
    (plus_from (side q.0 q.1) (side (s q.0) (option_map s q.1)) X Y (from_side q.0 q.1) h, tt),
  )
  premises_from Rule.Refl i (Nu c) X Y l o w h = (plus_from (c ∷ []) (s c ∷ []) X Y (from_more c [] [] (from_none [])) h, tt)
  premises_from Rule.Step i (Pi c) X Y l o w h =
      (plus_from (added (items t) t.logic i c) (added trees t.logic (s i) (s c)) (kept (items t) t.logic X) (kept trees t.logic Y) (from_added t.logic i c refl l o) (kept_from t.logic X Y w h), tt)
  premises_from Rule.Serial i (Nu c) X Y l o w h = (kept_from t.logic X Y w h, tt)
  premises_from Rule.Cut i p X Y l o w h = (
    plus_from (i ∷ []) (s i ∷ []) X Y (from_more i [] [] (from_none [])) h,
    (
      subst (λ f. IsFrom (plus (items t) (flip_item i ∷ []) X) (plus trees (f ∷ []) Y)) (signed_flip ts t i)
          (plus_from (flip_item i ∷ []) (s (flip_item i) ∷ []) X Y (from_more (flip_item i) [] [] (from_none [])) h),
      tt,
    ),
  )
  premises_from _ i p X Y l o w h = tt
