-- Names in byte order, and where a further name has its place.
use Rattle.std.proofs.Common.{◌≡◌, ℕ, ◌<◌, ◌≤◌, ◌+◌, ◌-◌, List, [], ◌∷◌, ◌++◌, length, get_or, take, drop, ◌⊎◌, ◌↔◌, inl, inr, ⊎_elim, ap, subst, sym, ◌∙◌, arith, Less, Equal, Greater, nat_cmp, is_lt, Result, Ok, Err, take-append-drop}
use Rattle.std.specs.List.{Contains, AllPairs, AllWithin, insert}
use Rattle.std.specs.List.Sorted.{IsBinarySearchResult, IsNonDecreasingBy, IsSearchInRange}
use Rattle.std.specs.Ordering.{ordering_index, ordering_reverse}
use Rattle.std.specs.Result.{IfOk, IfErr}
use Rattle.std.specs.Cmp.Lexicographic.{slice_cmp}
use Rattle.std.proofs.lemmas.Bool.{cases_lt, cases_eq}
use Rattle.std.proofs.lemmas.Cmp.{nat_list_cmp_total}
use Rattle.std.proofs.lemmas.List.Edits.{length-insert, get_or-insert_below, get_or-insert_at, get_or-insert_above}
use Rattle.std.proofs.lemmas.List.Elements.{Contains-append_cases, Contains-append_left, Contains-append_right}
use Rattle.std.proofs.lemmas.List.Sorted.{searchable_from_sorted}
use Rattle.std.proofs.lemmas.Map.Lookups.{exact_bytes}
use Rattle.lw_formula.specs.Formula.{Formula, letter, neg, conj, disj, impl, equi, nec, poss}
use Rattle.lw_formula.specs.Variables.{AreInByteOrder, AreVariables, AddsVariables, IsGapFor}
use Rattle.lw_formula.proofs.ListTests.{member_at}
use Rattle.lw_formula.proofs.ListMembers.{Contains-nil, Contains-head, Contains-tail, Contains-cons_cases}

-- where a place stands beside another: before it, at it, or one behind a place that isn't before it
data Beside (at : ℕ) (j : ℕ) : Type 0 where
  before : j < at → Beside at j
  here : j ≡ at → Beside at j
  behind : (n : ℕ) → at ≤ n → j ≡ n + 1 → Beside at j

beside : (at j : ℕ) → Beside at j
beside at j = ⊎_elim (λ l. before l) (λ g. later at j g (cases_eq j at)) (cases_lt j at)
  where
    later : (at j : ℕ) → at ≤ j → (j ≡ at) ⊎ (j ≡ at → ⊥) → Beside at j
    later at j g (inl e) = here e
    later at j g (inr n) = behind (j - 1) (omega arith) (omega arith)

-- a relation of each element and each later one, after an insert that respects it
pub AllPairs-insert : {X : Type 0} (R : X → X → Type 0) (xs : List X) (at : ℕ) (y : X) → at ≤ length xs → AllPairs R xs → AllWithin (λ x. R x y) xs 0 at → AllWithin (λ x. R y x) xs at (length xs) → AllPairs R (insert xs at y)
AllPairs-insert R xs at y l pairs below above i j d h k =
    let long : j < length xs + 1 = omega (arith, k, length-insert xs at y l) in
    by_place R xs at y l pairs below above i j d h long (beside at i) (beside at j)
  where
    read_below : {X : Type 0} (xs : List X) (at : ℕ) (y d : X) → at ≤ length xs → (k : ℕ) → k < at → get_or xs k d ≡ get_or (insert xs at y) k d
    read_below xs at y d l k h = sym (get_or-insert_below xs at y d k h l)

    read_here : {X : Type 0} (xs : List X) (at : ℕ) (y d : X) → at ≤ length xs → (k : ℕ) → k ≡ at → y ≡ get_or (insert xs at y) k d
    read_here xs at y d l k e = subst (λ n. y ≡ get_or (insert xs at y) n d) (sym e) (sym (get_or-insert_at xs at y d l))

    read_behind : {X : Type 0} (xs : List X) (at : ℕ) (y d : X) → at ≤ length xs → (k n : ℕ) → at ≤ n → k ≡ n + 1 → get_or xs n d ≡ get_or (insert xs at y) k d
    read_behind xs at y d l k n g e = subst (λ m. get_or xs n d ≡ get_or (insert xs at y) m d) (sym e) (sym (get_or-insert_above xs at y d n g l))

    along : {X : Type 0} (R : X → X → Type 0) {a b c e : X} → a ≡ b → c ≡ e → R a c → R b e
    along R {a} {b} {c} {e} p q r = subst (λ x. R x e) p (subst (λ x. R a x) q r)

    by_place : {X : Type 0} (R : X → X → Type 0) (xs : List X) (at : ℕ) (y : X) → at ≤ length xs → AllPairs R xs → AllWithin (λ x. R x y) xs 0 at → AllWithin (λ x. R y x) xs at (length xs) → (i j : ℕ) (d : X) → i < j → j < length xs + 1 → Beside at i → Beside at j → R (get_or (insert xs at y) i d) (get_or (insert xs at y) j d)
    by_place R xs at y l pairs below above i j d h k (before a) (before b) = along R (read_below xs at y d l i a) (read_below xs at y d l j b) (pairs i j d h (omega arith))
    by_place R xs at y l pairs below above i j d h k (before a) (here b) = along R (read_below xs at y d l i a) (read_here xs at y d l j b) (below i d (omega arith) a)
    by_place R xs at y l pairs below above i j d h k (before a) (behind n g e) = along R (read_below xs at y d l i a) (read_behind xs at y d l j n g e) (pairs i n d (omega arith) (omega arith))
    by_place R xs at y l pairs below above i j d h k (here a) (behind n g e) = along R (read_here xs at y d l i a) (read_behind xs at y d l j n g e) (above n d g (omega arith))
    by_place R xs at y l pairs below above i j d h k (behind m f a) (behind n g e) = along R (read_behind xs at y d l i m f a) (read_behind xs at y d l j n g e) (pairs m n d (omega arith) (omega arith))
    by_place R xs at y l pairs below above i j d h k (here a) (before b) = let bad : ⊥ = omega arith in absurd bad
    by_place R xs at y l pairs below above i j d h k (here a) (here b) = let bad : ⊥ = omega arith in absurd bad
    by_place R xs at y l pairs below above i j d h k (behind m f a) (before b) = let bad : ⊥ = omega arith in absurd bad
    by_place R xs at y l pairs below above i j d h k (behind m f a) (here b) = let bad : ⊥ = omega arith in absurd bad

-- an insert adds its element and nothing else
pub insert-Contains : {X : Type 0} (xs : List X) (at : ℕ) (y x : X) → Contains (insert xs at y) x ↔ (Contains xs x ⊎ (x ≡ y))
insert-Contains xs at y x = (
  λ h. ⊎_elim (λ front. inl (whole (Contains-append_left (take at xs) (drop at xs) x front)))
      (λ rest. ⊎_elim (λ e. inr (sym e)) (λ back. inl (whole (Contains-append_right (take at xs) (drop at xs) x back))) (Contains-cons_cases y (drop at xs) x rest))
      (Contains-append_cases (take at xs) (y ∷ drop at xs) x h),
  λ h. ⊎_elim
      (λ old. ⊎_elim (λ front. Contains-append_left (take at xs) (y ∷ drop at xs) x front)
      (λ back. Contains-append_right (take at xs) (y ∷ drop at xs) x (Contains-tail y (drop at xs) x back))
      (Contains-append_cases (take at xs) (drop at xs) x (parts old)))
      (λ e. Contains-append_right (take at xs) (y ∷ drop at xs) x (subst (Contains (y ∷ drop at xs)) (sym e) (Contains-head y (drop at xs))))
      h,
)
  where
    whole : Contains (take at xs ++ drop at xs) x → Contains xs x
    whole h = subst (λ zs. Contains zs x) (take-append-drop at xs) h

    parts : Contains xs x → Contains (take at xs ++ drop at xs) x
    parts h = subst (λ zs. Contains zs x) (sym (take-append-drop at xs)) h

-- what is before is not behind
pub slice_cmp-Greater : (p q : List ℕ) → slice_cmp nat_cmp p q ≡ Less → slice_cmp nat_cmp q p ≡ Greater
slice_cmp-Greater p q e = nat_list_cmp_total.antisymm q p ∙ ap ordering_reverse e

pub slice_cmp-Less : (p q : List ℕ) → slice_cmp nat_cmp p q ≡ Greater → slice_cmp nat_cmp q p ≡ Less
slice_cmp-Less p q e = nat_list_cmp_total.antisymm q p ∙ ap ordering_reverse e

-- names in byte order can be searched by halves
searchable : (names : List (List ℕ)) (p : List ℕ) → AreInByteOrder names → IsNonDecreasingBy (λ q. ordering_index (slice_cmp nat_cmp q p)) names
searchable names p h =
    searchable_from_sorted nat_list_cmp_total (λ q. q) names p
    (λ k d a b. ap is_lt (slice_cmp-Greater (get_or names k d) (get_or names (k + 1) d) (h k (k + 1) d (omega arith) b)))

-- what the search finds is the name
pub found : (names : List (List ℕ)) (p : List ℕ) (r : Result ℕ ℕ) → IsSearchInRange r (length names) → IsBinarySearchResult (λ q. slice_cmp nat_cmp q p) names r → IfOk r (λ _. Contains names p)
found names p (Ok i) l h =
    let some : (q : List ℕ) × Contains names q × (slice_cmp nat_cmp q p ≡ Equal) = member_at (λ q. slice_cmp nat_cmp q p ≡ Equal) names i l h in
    subst (Contains names) (exact_bytes some.0 p some.2) some.1
found names p (Err i) l h = tt

-- and where it finds nothing is the name's gap
pub absent : (names : List (List ℕ)) (p : List ℕ) (r : Result ℕ ℕ) → AreInByteOrder names → IsSearchInRange r (length names) → IsBinarySearchResult (λ q. slice_cmp nat_cmp q p) names r → IfErr r (IsGapFor names p)
absent names p (Ok i) o l h = tt
absent names p (Err i) o l h =
    let gap = h (searchable names p o) in
    record {
      within = l;
      before = λ k d a b. gap.0 k d a b;
      after = λ k d a b. slice_cmp-Less (get_or names k d) p (gap.1 k d a b);
    }

-- a name that is there adds nothing
pub AddsVariables-there : (names : List (List ℕ)) (p : List ℕ) → AreInByteOrder names → Contains names p → AddsVariables (letter p) names names
AddsVariables-there names p o h = record {
  names = λ q. (λ k. inl k, λ k. ⊎_elim (λ old. old) (λ e. subst (Contains names) (sym e) h) k);
  ordered = o;
}

-- a name put into its gap
pub AddsVariables-insert : (names : List (List ℕ)) (p : List ℕ) (i : ℕ) → AreInByteOrder names → IsGapFor names p i → AddsVariables (letter p) names (insert names i p)
AddsVariables-insert names p i o g = record {
  names = λ q. insert-Contains names i p q;
  ordered = AllPairs-insert (λ a b. slice_cmp nat_cmp a b ≡ Less) names i p g.within o g.before g.after;
}

-- the variables of one operand are those of the formula
pub AddsVariables-one : (f a : Formula) {old new : List (List ℕ)} → (f ≡ neg a) ⊎ ((f ≡ nec a) ⊎ (f ≡ poss a)) → AddsVariables a old new → AddsVariables f old new
AddsVariables-one f a {old = old} {new = new} is h =
    ⊎_elim (λ e. subst (λ g. AddsVariables g old new) (sym e) (record { names = h.names; ordered = h.ordered }))
    (λ rest. ⊎_elim (λ e. subst (λ g. AddsVariables g old new) (sym e) (record { names = h.names; ordered = h.ordered }))
    (λ e. subst (λ g. AddsVariables g old new) (sym e) (record { names = h.names; ordered = h.ordered })) rest)
    is

-- first the variables of one operand, then those of the other
AddsVariables-then : (a b : Formula) {old mid new : List (List ℕ)} → AddsVariables a old mid → AddsVariables b mid new → AddsVariables (conj a b) old new
AddsVariables-then a b h k = record {
  names = λ p. (
    λ m. ⊎_elim (λ before. ⊎_elim (λ o. inl o) (λ i. inr (inl i)) ((h.names p).0 before)) (λ i. inr (inr i)) ((k.names p).0 m),
    λ m. ⊎_elim (λ o. (k.names p).1 (inl ((h.names p).1 (inl o))))
        (λ i. ⊎_elim (λ l. (k.names p).1 (inl ((h.names p).1 (inr l)))) (λ r. (k.names p).1 (inr r)) i)
        m,
  );
  ordered = k.ordered;
}

pub AddsVariables-two : (f a b : Formula) {old mid new : List (List ℕ)} → (f ≡ conj a b) ⊎ ((f ≡ disj a b) ⊎ ((f ≡ impl a b) ⊎ (f ≡ equi a b))) → AddsVariables a old mid → AddsVariables b mid new → AddsVariables f old new
AddsVariables-two f a b {old = old} {mid = mid} {new = new} is h k =
    let both = AddsVariables-then a b h k in
    ⊎_elim (λ e. subst (λ g. AddsVariables g old new) (sym e) both)
    (λ rest. ⊎_elim (λ e. subst (λ g. AddsVariables g old new) (sym e) (record { names = both.names; ordered = both.ordered }))
    (λ rest'. ⊎_elim (λ e. subst (λ g. AddsVariables g old new) (sym e) (record { names = both.names; ordered = both.ordered }))
    (λ e. subst (λ g. AddsVariables g old new) (sym e) (record { names = both.names; ordered = both.ordered })) rest')
    rest)
    is

-- to no names, the variables are all
pub AreVariables-from_none : (a : Formula) (names : List (List ℕ)) → AddsVariables a [] names → AreVariables a names
AreVariables-from_none a names h = record {
  variables = λ p. (λ m. ⊎_elim (λ none. absurd (Contains-nil p none)) (λ o. o) ((h.names p).0 m), λ o. (h.names p).1 (inr o));
  ordered = h.ordered;
}
