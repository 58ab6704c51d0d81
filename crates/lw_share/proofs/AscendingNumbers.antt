-- Strictly ascending lists of numbers with the same members are equal.
use Rattle.std.proofs.Common.{◌≡◌, ℕ, ◌<◌, suc, List, [], ◌∷◌, ◌↔◌, inl, inr, refl, subst, sym, ◌∙◌, arith}
use Rattle.std.specs.List.{AllPairs, Contains}
use Rattle.std.specs.List.Sorted.{IsStrictlyIncreasing}
use Rattle.std.proofs.lemmas.List.Kept.{AllPairs-from_increasing}
use Rattle.lw_formula.proofs.ListMembers.{Contains-nil, Contains-head, Contains-tail, Contains-cons_cases}

abbrev Ascends : List ℕ → Type 0
Ascends xs = AllPairs (λ x y. x < y) xs

abbrev pub HaveSameMembers : List ℕ → List ℕ → Type 0
HaveSameMembers xs ys = (n : ℕ) → Contains xs n ↔ Contains ys n

head_below : (x : ℕ) (xs : List ℕ) → Ascends (x ∷ xs) → (y : ℕ) → Contains xs y → x < y
head_below x xs up y h = subst (λ z. x < z) h.2 (up 0 (suc h.0) y (omega arith) (omega (arith, h.1)))

tail_ascends : (x : ℕ) (xs : List ℕ) → Ascends (x ∷ xs) → Ascends xs
tail_ascends x xs up = λ i j d l h. up (suc i) (suc j) d (omega (arith, l)) (omega (arith, h))

heads_same : (x y : ℕ) (xs ys : List ℕ) → Ascends (x ∷ xs) → Ascends (y ∷ ys) → HaveSameMembers (x ∷ xs) (y ∷ ys) → x ≡ y
heads_same x y xs ys s t h = elim (Contains-cons_cases y ys x ((h x).0 (Contains-head x xs))) [
  | inl e ↦ sym e
  | inr later ↦ elim (Contains-cons_cases x xs y ((h y).1 (Contains-head y ys))) [
    | inl e ↦ e
    | inr other ↦ absurd (omega (arith, head_below x xs s y other, head_below y ys t x later))
  ]
]

tail_member : (x y : ℕ) (xs ys : List ℕ) → Ascends (x ∷ xs) → x ≡ y → (n : ℕ) → (Contains (x ∷ xs) n → Contains (y ∷ ys) n) →
    Contains xs n → Contains ys n
tail_member x y xs ys s e n h m = elim (Contains-cons_cases y ys n (h (Contains-tail x xs n m))) [
  | inl same ↦ absurd (omega (arith, head_below x xs s n m, e ∙ same))
  | inr later ↦ later
]

same_ascending : (xs ys : List ℕ) → Ascends xs → Ascends ys → HaveSameMembers xs ys → xs ≡ ys
same_ascending [] [] s t h = refl
same_ascending [] (y ∷ ys) s t h = absurd (Contains-nil y ((h y).1 (Contains-head y ys)))
same_ascending (x ∷ xs) [] s t h = absurd (Contains-nil x ((h x).0 (Contains-head x xs)))
same_ascending (x ∷ xs) (y ∷ ys) s t h =
    let e : x ≡ y = heads_same x y xs ys s t h in
    let rest : xs ≡ ys = same_ascending xs ys (tail_ascends x xs s) (tail_ascends y ys t) (λ n. (
      tail_member x y xs ys s e n (h n).0,
      tail_member y x ys xs t (sym e) n (h n).1,
    )) in
    λ i. e i ∷ rest i

pub same_increasing : (xs ys : List ℕ) → IsStrictlyIncreasing xs → IsStrictlyIncreasing ys → HaveSameMembers xs ys → xs ≡ ys
same_increasing xs ys s t h = same_ascending xs ys (AllPairs-from_increasing xs s) (AllPairs-from_increasing ys t) h
