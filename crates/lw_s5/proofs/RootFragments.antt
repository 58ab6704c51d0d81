-- The root and its children make an open fragment.
use Rattle.std.proofs.Common.{◌≡◌, ◌≢◌, ℕ, ◌+◌, ◌*◌, ◌/◌, ◌%◌, ◌<◌, ◌≤◌, true, cond, eqb, Some, None, List, [], length, inl, inr, refl, sym, ap, subst, ◌∙◌, arith}
use Rattle.std.specs.List.{All}
use Rattle.std.proofs.lemmas.Bool.{and_from, cases_eq, cases_lt, cond_both, eq-eqb, false≢true, ne_eqb}
use Rattle.std.proofs.lemmas.List.{get_or_past, length_push}
use Rattle.std.proofs.lemmas.List.Elements.{All-nil}
use Rattle.lw_formula.specs.declared.logic.Logic.{Logic}
use Rattle.lw_formula.specs.declared.logic.Logic.TheVariants.{S5}
use Rattle.lw_formula.specs.declared.parts.Parts.{Parts}
use Rattle.lw_formula.specs.declared.parts.Parts.TheVariants.{Pi}
use Rattle.lw_proof.specs.System.{Set, IsWithin}
use Rattle.lw_proof.specs.Derivation.{has_cut, has_serial, is_modal_part, kept}
use Rattle.lw_closure.specs.Items.{items}
use Rattle.lw_closure.specs.Table.{Table, entry_at, flip_item, item_count}
use Rattle.lw_closure.specs.Unclosed.{IsUnclosedLabel}
use Rattle.lw_closure.specs.Keeps.{has_guards}
use Rattle.lw_closure.proofs.ItemNumbers.{flip_even, flip_odd}
use Rattle.lw_counter.specs.Fragment.{Fragment, World, world_at, items_of, with_world}
use Rattle.lw_counter.specs.Open.{IsOpen}
use Rattle.lw_counter.specs.FragmentPaths.{has_links}
use Rattle.lw_counter.proofs.WellFormedFragments.{items_more, new_world, old_world}
use Rattle.lw_sat.specs.Sets.{among, IsOfItems}
use Rattle.lw_search.proofs.ItemCounts.{pi_asks}
use Rattle.lw_search.proofs.SearchSums.{count_more}
use Rattle.lw_search.specs.Explored.{IsExplored}
use Rattle.lw_search.specs.Step.{count_below, is_asker}
use Rattle.lw_s5.specs.Private.RootedSearch.{IsChild, IsInWorld, IsModalAlike, Surrounds}

-- the fragment without worlds
abbrev pub empty : Fragment
empty = record { worlds = []; links = [] }

module _ (t : Table) (R : Set ℕ) where
  -- the root alone
  pub root_alone : (xs : List ℕ) → among xs ≡ R → All (λ i. i < item_count t) xs → Surrounds t R 0 (with_world empty None xs)
  root_alone xs e below = record {
    some = omega arith;
    links = refl;
    items = items_more t empty None xs (λ w. All-nil (λ i. i < item_count t)) below;
    top = refl;
    root = e;
    near = λ w l n. absurd (n (omega (arith, l)));
    children = λ w l n. absurd (n (omega (arith, l)));
    few = omega arith;
    served = λ i c l. absurd (omega (arith, l));
  }

  module _ (n : ℕ) (f : Fragment) (h : Surrounds t R n f) where
    -- the next item asks for nothing
    pub none_asked : ((c : ℕ) → R n ≡ true → (entry_at t n).parts ≡ Pi c → IsInWorld f c) → Surrounds t R (n + 1) f
    none_asked there = record {
      some = h.some;
      links = h.links;
      items = h.items;
      top = h.top;
      root = h.root;
      near = h.near;
      children = h.children;
      few = (let more = count_more (is_asker t) n in omega (arith, h.few, more));
      served = λ i c l in_ e. elim (cases_eq i n) [
        | inl same ↦ there c (subst (λ k. R k ≡ true) same in_) (subst (λ k. (entry_at t k).parts ≡ Pi c) same e)
        | inr apart ↦ h.served i c (omega (arith, l, apart)) in_ e
      ];
    }

    module _ (xs : List ℕ) where
      abbrev g : Fragment
      g = with_world f (Some 0) xs

      longer : length g.worlds ≡ length f.worlds + 1
      longer = length_push f.worlds (record { label = xs; parent = Some 0 })

      old : (P : World → Type 0) (w : ℕ) → w < length f.worlds → P (world_at f w) → P (world_at g w)
      old P w l p = subst P (sym (old_world f (Some 0) xs w l)) p

      new : (P : World → Type 0) → P (record { label = xs; parent = Some 0 }) → P (world_at g (length f.worlds))
      new P p = subst P (sym (new_world f (Some 0) xs)) p

      -- what holds of each world but the root, and of the new one
      each : (P : World → Type 0) → ((w : ℕ) → w < length f.worlds → w ≢ 0 → P (world_at f w)) → P (record { label = xs; parent = Some 0 }) →
          (w : ℕ) → w < length g.worlds → w ≢ 0 → P (world_at g w)
      each P olds this w l n0 = elim (cases_eq w (length f.worlds)) [
        | inl last ↦ subst (λ k. P (world_at g k)) (sym last) (new P this)
        | inr other ↦ (let below : w < length f.worlds = omega (arith, l, longer, other) in old P w below (olds w below n0))
      ]

      -- the next item is a π that has no witness yet, and a child serves it
      pub one_served : (c : ℕ) → t.logic ≡ S5 → (entry_at t n).parts ≡ Pi c → IsChild t R (among xs) → among xs c ≡ true → All (λ i. i < item_count t) xs → Surrounds t R (n + 1) g
      one_served c logic parts child serves below = record {
        some = omega (arith, longer);
        links = h.links;
        items = items_more t f (Some 0) xs h.items below;
        top = old (λ x. x.parent ≡ None) 0 h.some h.top;
        root = ap (λ (x : World). among x.label) (old_world f (Some 0) xs 0 h.some) ∙ h.root;
        near = each (λ x. x.parent ≡ Some 0) h.near refl;
        children = each (λ x. IsChild t R (among x.label)) h.children child;
        few = omega (arith, h.few, longer, counted);
        served = λ i d l in_ e. elim (cases_eq i n) [
          | inl same ↦ (
              let q : Parts.Pi c ≡ Parts.Pi d = sym parts ∙ subst (λ k. (entry_at t k).parts ≡ Pi d) same e in
              let r : c ≡ d = cc in
              (length f.worlds, omega (arith, longer), new (λ x. among x.label d ≡ true) (subst (λ k. among xs k ≡ true) r serves))
              )
          | inr apart ↦ (
              let w = h.served i d (omega (arith, l, apart)) in_ e in
              (w.0, omega (arith, longer, w.1), old (λ x. among x.label d ≡ true) w.0 w.1 w.2)
              )
        ];
      } where
        counted : count_below (is_asker t) (n + 1) ≡ 1 + count_below (is_asker t) n
        counted = count_more (is_asker t) n ∙ ap (λ b. cond b 1 0 + count_below (is_asker t) n) (pi_asks t n c (ap has_guards logic) parts)

-- the same formula under the other sign is modal too
modal_flip : (t : Table) (i : ℕ) → IsModalAlike t → flip_item i < item_count t → is_modal_part (entry_at t i).parts ≡ true → is_modal_part (entry_at t (flip_item i)).parts ≡ true
modal_flip t i alike below modal = elim (cases_eq (i % 2) 0) [ inl e ↦ even e | inr n ↦ odd (omega (arith, n)) ] where
  even : i % 2 ≡ 0 → is_modal_part (entry_at t (flip_item i)).parts ≡ true
  even e =
      let q : i ≡ 2 * (i / 2) = omega (arith, e) in
      let f : flip_item i ≡ 2 * (i / 2) + 1 = flip_even i e ∙ omega (arith, e) in
      let half : i / 2 < length t.forms = omega (arith, below, f) in
      subst (λ k. is_modal_part (entry_at t k).parts ≡ true) (sym f) (sym (alike (i / 2) half) ∙ subst (λ k. is_modal_part (entry_at t k).parts ≡ true) q modal)

  odd : i % 2 ≡ 1 → is_modal_part (entry_at t (flip_item i)).parts ≡ true
  odd e =
      let q : i ≡ 2 * (i / 2) + 1 = omega (arith, e) in
      let f : flip_item i ≡ 2 * (i / 2) = flip_odd i e ∙ omega (arith, e) in
      let half : i / 2 < length t.forms = omega (arith, below, f) in
      subst (λ k. is_modal_part (entry_at t k).parts ≡ true) (sym f) (alike (i / 2) half ∙ subst (λ k. is_modal_part (entry_at t k).parts ≡ true) q modal)

-- the root and children that serve all its π are an open fragment, explored in one step
module _ (t : Table) (R : Set ℕ) (f : Fragment) (logic : t.logic ≡ S5) (alike : IsModalAlike t) (items_ : IsOfItems t R) (unclosed : IsUnclosedLabel t R) (h : Surrounds t R (item_count t) f) where
  own : (w : ℕ) → w < length f.worlds → IsUnclosedLabel t (items_of f w)
  own w l = elim (cases_eq w 0) [
    | inl top ↦ subst (λ k. IsUnclosedLabel t (items_of f k)) (sym top) (subst (IsUnclosedLabel t) (sym h.root) unclosed)
    | inr child ↦ (h.children w l child).unclosed
  ]

  -- only a world other than the root has a parent, and that is the root
  parents : (v w : ℕ) → (world_at f v).parent ≡ Some w → (v < length f.worlds) × (v ≢ 0) × (w ≡ 0)
  parents v w e = elim (cases_lt v (length f.worlds)) [
    | inl l ↦ (
        let n : v ≢ 0 = λ top. (let none : (world_at f v).parent ≡ None = ap (λ k. (world_at f k).parent) top ∙ h.top in cc) in
        let near = h.near v l n in
        (l, n, cc)
        )
    | inr past ↦ (let none : (world_at f v).parent ≡ None = ap (λ (x : World). x.parent) (get_or_past f.worlds v (record { label = []; parent = None }) past) in cc)
  ]

  of_root : (s c : ℕ) → R s ≡ true → (entry_at t s).parts ≡ Pi c → IsInWorld f c
  of_root s c in_ parts = h.served s c (items_ s in_) in_ parts

  -- a π of a child's label stands in the root's, since the one under the other sign would stand in the child's
  in_world : (w s c : ℕ) → w < length f.worlds → items_of f w s ≡ true → (entry_at t s).parts ≡ Pi c → IsInWorld f c
  in_world w s c l in_ parts = elim (cases_eq w 0) [
    | inl top ↦ of_root s c (subst (λ X. X s ≡ true) h.root (subst (λ k. items_of f k s ≡ true) top in_)) parts
    | inr n ↦ (
        let child = h.children w l n in
        let modal : is_modal_part (entry_at t s).parts ≡ true = subst (λ p. is_modal_part p ≡ true) (sym parts) refl in
        elim (child.decided s modal in_) [
          | inl here ↦ of_root s c here parts
          | inr other ↦ (
              let flipped = modal_flip t s alike (items_ (flip_item s) other) modal in
              let K : Logic → Type 0 = λ L. kept (items t) L R (flip_item s) ≡ true in
              absurd (child.unclosed.consistent s in_ (child.keeps (flip_item s) (subst K (sym logic) (and_from (is_modal_part (entry_at t (flip_item s)).parts) (R (flip_item s)) flipped other))))
              )
        ]
        )
  ]

  cut : has_cut t.logic ≡ true
  cut = ap has_cut logic

  is_open : IsOpen (items t) t.logic f (items_of f)
  is_open = record {
    some = h.some;
    formed = record {
      ordered = λ w u e. (let p = parents w u e in omega (arith, p.2, p.1));
      linked = subst (All (λ l. (l.0 < length f.worlds) × (l.1 < length f.worlds))) (sym h.links) (All-nil (λ l. (l.0 < length f.worlds) × (l.1 < length f.worlds)));
    };
    unclosed = own;
    flows = λ w v edge s k. elim edge [
      | inl parent ↦ (
          let p = parents v w parent in
          (h.children v p.0 p.1).keeps s (subst (λ X. kept (items t) t.logic X s ≡ true) h.root (subst (λ k. kept (items t) t.logic (items_of f k) s ≡ true) p.2 k))
          )
      | inr link ↦ absurd (false≢true (sym (ap has_links logic) ∙ link.0))
    ];
    served = λ w l s c in_ parts. (let v = in_world w s c l in_ parts in inr (v.0, inr (cut, v.1), v.2));
    round = λ _. record {
      near = h.near;
      decided = λ w l s modal in_. elim (cases_eq w 0) [
        | inl top ↦ inl (subst (λ k. items_of f k s ≡ true) top in_)
        | inr n ↦ elim ((h.children w l n).decided s modal in_) [
          | inl here ↦ inl (subst (λ X. X s ≡ true) (sym h.root) here)
          | inr other ↦ inr (subst (λ X. X (flip_item s) ≡ true) (sym h.root) other)
        ]
      ];
    };
    serial = λ serial. absurd (false≢true (sym (ap has_serial logic) ∙ serial));
  }

  abbrev height : ℕ → ℕ
  height w = cond (eqb w 0) 1 0

  pub explored : (X : Set ℕ) → IsWithin X R → IsExplored t 1 X f
  explored X within = record {
    is_open = is_open;
    items = h.items;
    root = subst (IsWithin X) (sym h.root) within;
    few = (let few = h.few in omega arith);
    heights = record {
      height = height;
      low = λ w l. cond_both (eqb w 0) 1 0 (λ k. k ≤ 1) (λ e. omega arith) (λ e. omega arith);
      falls = λ w v l e. (
          let p = parents v w e in
          let low : height v ≡ 0 = ap (λ b. cond b 1 0) (ne_eqb v 0 p.1) in
          let high : height w ≡ 1 = ap (λ b. cond b 1 0) (eq-eqb w 0 p.2) in
          omega (arith, low, high)
          );
    };
  }
