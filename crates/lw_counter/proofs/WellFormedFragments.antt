-- Fragments stay well formed.
use Rattle.std.proofs.Common.{◌≡◌, ℕ, ◌<◌, ◌≤◌, Option, None, List, [], ◌∷◌, length, take, inl, inr, refl, ap, sym, subst, ◌∙◌, arith, length-take, length-append}
use Rattle.std.specs.List.{All, filter}
use Rattle.std.proofs.lemmas.List.{get_or_past, get_or_push, get_or_append_left, get_or-take}
use Rattle.std.proofs.lemmas.List.Elements.{All-nil, All-contains}
use Rattle.std.proofs.lemmas.Bool.{cases_lt, cases_order, and_parts, ltb-true}
use Rattle.lw_formula.proofs.ListMembers.{All-members, Contains-filter_cases}
use Rattle.lw_closure.specs.Table.{Table, item_count}
use Rattle.lw_counter.specs.Fragment.{World, Fragment, IsFormed, HasItemsOf, world_at, is_below, cut_to, with_world}

-- a new world, the old ones beside it, and those that a cut keeps and loses
pub new_world : (f : Fragment) (parent : Option ℕ) (label : List ℕ) → world_at (with_world f parent label) (length f.worlds) ≡ record { label = label; parent = parent }
new_world f parent label = get_or_push f.worlds (record { label = label; parent = parent }) (record { label = []; parent = None }) (length f.worlds) refl

pub old_world : (f : Fragment) (parent : Option ℕ) (label : List ℕ) (w : ℕ) → w < length f.worlds → world_at (with_world f parent label) w ≡ world_at f w
old_world f parent label w l = get_or_append_left f.worlds ((record { label = label; parent = parent }) ∷ []) (record { label = []; parent = None }) w l

pub kept_world : (n : ℕ) (f : Fragment) (w : ℕ) → w < n → world_at (cut_to n f) w ≡ world_at f w
kept_world n f w l = get_or-take n f.worlds w (record { label = []; parent = None }) l

pub lost_world : (n : ℕ) (f : Fragment) (w : ℕ) → n ≤ w → world_at (cut_to n f) w ≡ record { label = []; parent = None }
lost_world n f w l = get_or_past (take n f.worlds) w (record { label = []; parent = None }) (omega (arith, length-take n f.worlds))

pub formed_cut : (n : ℕ) (f : Fragment) → IsFormed f → IsFormed (cut_to n f)
formed_cut n f h = record {
  ordered = λ w u e. elim (cases_lt w n) [
    | inl l ↦ h.ordered w u (sym (ap (λ (x : World). x.parent) (kept_world n f w l)) ∙ e)
    | inr past ↦ (let none : (world_at (cut_to n f) w).parent ≡ None = ap (λ (x : World). x.parent) (lost_world n f w past) in cc)
  ];
  linked = All-members (λ l. (l.0 < length (take n f.worlds)) × (l.1 < length (take n f.worlds))) (filter (is_below n) f.links) (λ l m.
      let k = Contains-filter_cases (is_below n) f.links l m in
      let in_worlds = All-contains (λ l. (l.0 < length f.worlds) × (l.1 < length f.worlds)) f.links l h.linked k.0 in
      let both = and_parts _ _ k.1 in
      let from : l.0 < n = ltb-true l.0 n both.0 in
      let to : l.1 < n = ltb-true l.1 n both.1 in
      (omega (arith, length-take n f.worlds, in_worlds.0), omega (arith, length-take n f.worlds, in_worlds.1)));
}

-- labels that hold items of the closure go on to do so
pub items_more : (t : Table) (f : Fragment) (parent : Option ℕ) (label : List ℕ) → HasItemsOf t f → All (λ i. i < item_count t) label → HasItemsOf t (with_world f parent label)
items_more t f parent label h new w = elim (cases_order w (length f.worlds)) [
  | inl last ↦ subst (λ x. All (λ i. i < item_count t) (world_at (with_world f parent label) x).label) (sym last) (subst (λ (x : World). All (λ i. i < item_count t) x.label) (sym (new_world f parent label)) new)
  | inr other ↦ elim other [
    | inl old ↦ subst (λ (x : World). All (λ i. i < item_count t) x.label) (sym (old_world f parent label w old)) (h w)
    | inr past ↦ subst (λ (x : World). All (λ i. i < item_count t) x.label) (sym (beyond (omega (arith, length-append f.worlds ((record { label = label; parent = parent }) ∷ []))))) (All-nil (λ i. i < item_count t))
  ]
]
  where
    beyond : length (with_world f parent label).worlds ≤ w → world_at (with_world f parent label) w ≡ record { label = []; parent = None }
    beyond l = get_or_past (with_world f parent label).worlds w (record { label = []; parent = None }) l

-- also where worlds are cut off
pub items_cut : (t : Table) (n : ℕ) (f : Fragment) → HasItemsOf t f → HasItemsOf t (cut_to n f)
items_cut t n f h w = elim (cases_lt w n) [
  | inl l ↦ subst (λ (x : World). All (λ i. i < item_count t) x.label) (sym (kept_world n f w l)) (h w)
  | inr past ↦ subst (λ (x : World). All (λ i. i < item_count t) x.label) (sym (lost_world n f w past)) (All-nil (λ i. i < item_count t))
]
