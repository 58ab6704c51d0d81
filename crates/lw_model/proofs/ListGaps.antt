-- Ordered lists: what a search finds in one, and what it is after an item was put into its gap.
use Rattle.std.proofs.Common.{◌≡◌, Bool, true, false, not, ℕ, ◌+◌, List, [], ◌∷◌, length, get_or, take, drop, ⊎_elim, refl, ap, subst, sym, ◌∙◌, arith, Less, Equal, Greater, is_lt, Result, Ok, Err}
use Rattle.std.specs.declared.cmp.Ordering.{Ordering}
use Rattle.std.specs.Cmp.{IsTotalOrder}
use Rattle.std.specs.List.{All, Contains, insert}
use Rattle.std.specs.List.Sorted.{IsBinarySearchResult, IsNonDecreasingBy, IsSearchInRange, IsStrictlySortedBy}
use Rattle.std.specs.Ordering.{ordering_index, ordering_reverse}
use Rattle.std.specs.Bool.{Decides}
use Rattle.std.specs.Option.{IfNone, IfSome, is_some}
use Rattle.std.specs.Prelude.{Option, Some, None}
use Rattle.std.specs.Result.{IfOk, result_err}
use Rattle.std.proofs.lemmas.Bool.{cases_lt, false≢true}
use Rattle.std.proofs.lemmas.Cmp.{tied_itself}
use Rattle.std.proofs.lemmas.List.Sorted.{searchable_from_sorted}
use Rattle.std.proofs.lemmas.List.Elements.{All-append, All-cons, All-take, All-drop}
use Rattle.std.proofs.lemmas.Map.Keys.{Less-from_sorted, sorted_from_all_adjacent}
use Rattle.lw_formula.proofs.ByteOrder.{AllPairs-insert}
use Rattle.lw_formula.proofs.ListTests.{member_at}
use Rattle.lw_model.specs.Private.OrderedRows.{IsGapIn}

-- no items are in order
pub sorted-nil : {T : Type 0} (cmp : T → T → Ordering) → IsStrictlySortedBy cmp []
unfolding IsStrictlySortedBy
sorted-nil cmp = tt

-- what holds of each item and of a further one, holds of each after that was put in
pub All-insert : {T : Type 0} (P : T → Type 0) (xs : List T) (i : ℕ) (x : T) → All P xs → P x → All P (insert xs i x)
All-insert P xs i x all one = All-append P (take i xs) (x ∷ drop i xs) (All-take P i xs all) (All-cons P x (drop i xs) one (All-drop P i xs all))

module _ {T : Type 0} {cmp : T → T → Ordering} (total : IsTotalOrder cmp) where
  greater : (x y : T) → cmp x y ≡ Less → cmp y x ≡ Greater
  greater x y e = total.antisymm y x ∙ ap ordering_reverse e

  lesser : (x y : T) → cmp x y ≡ Greater → cmp y x ≡ Less
  lesser x y e = total.antisymm y x ∙ ap ordering_reverse e

  -- an ordered list can be searched by halves
  searchable : (xs : List T) (x : T) → IsStrictlySortedBy cmp xs → IsNonDecreasingBy (λ y. ordering_index (cmp y x)) xs
  searchable xs x h =
      searchable_from_sorted total (λ y. y) xs x
      (λ k d a b. ap is_lt (greater (get_or xs k d) (get_or xs (k + 1) d) (Less-from_sorted cmp xs k (k + 1) d h (omega arith) b)))

  -- what the search finds is the item
  pub found : ((x y : T) → cmp x y ≡ Equal → x ≡ y) → (xs : List T) (x : T) (r : Result ℕ ℕ) → IsSearchInRange r (length xs) → IsBinarySearchResult (λ y. cmp y x) xs r → IfOk r (λ _. Contains xs x)
  found exact xs x (Ok i) l h =
      let some : (y : T) × Contains xs y × (cmp y x ≡ Equal) = member_at (λ y. cmp y x ≡ Equal) xs i l h in
      subst (Contains xs) (exact some.0 x some.2) some.1
  found exact xs x (Err i) l h = tt

  -- and where it finds nothing is the item's gap
  pub absent : (xs : List T) (x : T) (r : Result ℕ ℕ) → IsStrictlySortedBy cmp xs → IsSearchInRange r (length xs) → IsBinarySearchResult (λ y. cmp y x) xs r → IfSome (result_err r) (IsGapIn cmp xs x)
  absent xs x (Ok i) o l h = tt
  absent xs x (Err i) o l h =
      let gap = h (searchable xs x o) in
      record {
        within = l;
        before = λ k d a b. gap.0 k d a b;
        after = λ k d a b. lesser (get_or xs k d) x (gap.1 k d a b);
      }

  -- an item put into its gap leaves the list ordered
  pub sorted-insert : (xs : List T) (i : ℕ) (x : T) → IsStrictlySortedBy cmp xs → IsGapIn cmp xs x i → IsStrictlySortedBy cmp (insert xs i x)
  sorted-insert xs i x h gap =
      let pairs = AllPairs-insert (λ a b. cmp a b ≡ Less) xs i x gap.within (λ j k d a b. Less-from_sorted cmp xs j k d h a b) gap.before gap.after in
      sorted_from_all_adjacent total (insert xs i x) x (λ k l. pairs k (k + 1) x (omega arith) l)

  -- an item that has a gap isn't there
  pub gap-absent : (xs : List T) (x : T) (i : ℕ) → IsGapIn cmp xs x i → Contains xs x → ⊥
  gap-absent xs x i gap h =
      let same : cmp x x ≡ Equal = tied_itself total x in
      let less : cmp x x ≡ Less =
      ⊎_elim
      (λ below. subst (λ y. cmp y x ≡ Less) h.2 (gap.before h.0 x (omega arith) below))
      (λ above. subst (λ y. cmp x y ≡ Less) h.2 (gap.after h.0 x above h.1))
      (cases_lt h.0 i)
      in
      cc

  -- whether there is no gap for an item tells whether it is there
  pub gap-Decides : (xs : List T) (x : T) (r : Option ℕ) (b : Bool) → is_some r ≡ not b → IfNone r (Contains xs x) → IfSome r (IsGapIn cmp xs x) → Decides b (Contains xs x)
  gap-Decides xs x None true e there gap = (λ _. there, λ _. refl)
  gap-Decides xs x None false e there gap = absurd (false≢true e)
  gap-Decides xs x (Some i) true e there gap = absurd (false≢true (sym e))
  gap-Decides xs x (Some i) false e there gap = (λ q. absurd (false≢true q), λ h. absurd (gap-absent xs x i gap h))
