-- Strictly sorted lists with the same members are equal.
use Rattle.std.proofs.Common.{◌≡◌, List, [], ◌∷◌, ◌↔◌, ⊎_elim, refl, ap, subst, sym, ◌∙◌}
use Rattle.std.specs.Cmp.{IsTotalOrder}
use Rattle.std.specs.Ordering.{ordering_reverse}
use Rattle.std.specs.declared.cmp.Ordering.{Ordering}
use Rattle.std.specs.declared.cmp.Ordering.TheVariants.{Less, Greater}
use Rattle.std.specs.List.{Contains}
use Rattle.std.specs.List.Sorted.{IsStrictlySortedBy}
use Rattle.std.proofs.lemmas.List.Elements.{All-contains, All-from_recursion}
use Rattle.std.proofs.lemmas.Map.Keys.{sorted_head, sorted_tail}
use Rattle.lw_formula.proofs.ListMembers.{Contains-nil, Contains-head, Contains-tail, Contains-cons_cases}

module _ {X : Type 0} (cmp : X → X → Ordering) (total : IsTotalOrder cmp) where
  one_way : (x y : X) → cmp x y ≡ Less → cmp y x ≡ Less → ⊥
  one_way x y e f = let both : Less ≡ Greater = sym e ∙ total.antisymm x y ∙ ap ordering_reverse f in cc

  head_below : (x : X) (xs : List X) → IsStrictlySortedBy cmp (x ∷ xs) → (y : X) → Contains xs y → cmp x y ≡ Less
  head_below x xs s y h = All-contains (λ z. cmp x z ≡ Less) xs y (All-from_recursion (λ z. cmp x z ≡ Less) xs (sorted_head cmp x xs s)) h

  abbrev HaveSameMembers : List X → List X → Type 0
  HaveSameMembers xs ys = (x : X) → Contains xs x ↔ Contains ys x

  heads_same : (x y : X) (xs ys : List X) → IsStrictlySortedBy cmp (x ∷ xs) → IsStrictlySortedBy cmp (y ∷ ys) → HaveSameMembers (x ∷ xs) (y ∷ ys) → x ≡ y
  heads_same x y xs ys s t h =
      ⊎_elim
      (λ e. sym e)
      (λ later. ⊎_elim
      (λ e. e)
      (λ other. absurd (one_way x y (head_below x xs s y other) (head_below y ys t x later)))
      (Contains-cons_cases x xs y ((h y).1 (Contains-head y ys))))
      (Contains-cons_cases y ys x ((h x).0 (Contains-head x xs)))

  tail_member : (x y : X) (xs ys : List X) → IsStrictlySortedBy cmp (x ∷ xs) → x ≡ y → ((z : X) → Contains (x ∷ xs) z → Contains (y ∷ ys) z) → (z : X) → Contains xs z → Contains ys z
  tail_member x y xs ys s e h z m =
      ⊎_elim
      (λ same. absurd (one_way x x (less (e ∙ same)) (less (e ∙ same))))
      (λ later. later)
      (Contains-cons_cases y ys z (h z (Contains-tail x xs z m)))
    where
      less : x ≡ z → cmp x x ≡ Less
      less r = subst (λ w. cmp x w ≡ Less) (sym r) (head_below x xs s z m)

  pub same_sorted : (xs ys : List X) → IsStrictlySortedBy cmp xs → IsStrictlySortedBy cmp ys → HaveSameMembers xs ys → xs ≡ ys
  same_sorted [] [] s t h = refl
  same_sorted [] (y ∷ ys) s t h = absurd (Contains-nil y ((h y).1 (Contains-head y ys)))
  same_sorted (x ∷ xs) [] s t h = absurd (Contains-nil x ((h x).0 (Contains-head x xs)))
  same_sorted (x ∷ xs) (y ∷ ys) s t h =
      let e : x ≡ y = heads_same x y xs ys s t h in
      let rest : xs ≡ ys = same_sorted xs ys (sorted_tail cmp x xs s) (sorted_tail cmp y ys t) (λ z. (
        tail_member x y xs ys s e (λ w. (h w).0) z,
        tail_member y x ys xs t (sym e) (λ w. (h w).1) z,
      )) in
      λ i. e i ∷ rest i
