-- Lists in which each element is before those behind it are told by their members, as names in byte order are.
use Rattle.std.proofs.Common.{◌≡◌, ℕ, suc, List, [], ◌∷◌, Contains, ◌⊎◌, inl, inr, ⊎_elim, refl, sym, ◌∙◌, subst, arith}
use Rattle.std.specs.List.{AllPairs}
use Rattle.std.specs.Ordering.{nat_cmp}
use Rattle.std.specs.Cmp.Lexicographic.{slice_cmp}
use Rattle.std.specs.declared.cmp.Ordering.TheVariants.{Less}
use Rattle.lw_formula.specs.Formula.{Formula}
use Rattle.lw_formula.specs.Variables.{AreVariables}
use Rattle.lw_trace.specs.TraceFaults.{IsFirstVariable}
use Rattle.lw_formula.proofs.ByteOrder.{slice_cmp-Greater}
use Rattle.lw_formula.proofs.ListMembers.{Contains-nil, Contains-head, Contains-tail, Contains-cons_cases}

module _ {X : Type 0} (Before : X → X → Type 0) (apart : (x y : X) → Before x y → Before y x → ⊥) where
  first_before : (x : X) (xs : List X) → AllPairs Before (x ∷ xs) → (y : X) → Contains xs y → Before x y
  first_before x xs pairs y h = subst (Before x) h.2 (pairs 0 (suc h.0) y (omega arith) (omega (arith, h.1)))

  rest_in_order : (x : X) (xs : List X) → AllPairs Before (x ∷ xs) → AllPairs Before xs
  rest_in_order x xs pairs i j d l k = pairs (suc i) (suc j) d (omega arith) (omega arith)

  rest_has : (x y : X) (xs ys : List X) → x ≡ y → AllPairs Before (x ∷ xs) → ((z : X) → Contains (x ∷ xs) z → Contains (y ∷ ys) z) → (z : X) → Contains xs z → Contains ys z
  rest_has x y xs ys same pairs all z h =
      ⊎_elim (λ e. let here : Before z z = subst (λ v. Before v z) (same ∙ e) (first_before x xs pairs z h) in absurd (apart z z here here)) (λ k. k)
      (Contains-cons_cases y ys z (all z (Contains-tail x xs z h)))

  told_by_members : (xs ys : List X) → AllPairs Before xs → AllPairs Before ys → ((z : X) → Contains xs z → Contains ys z) → ((z : X) → Contains ys z → Contains xs z) → xs ≡ ys
  told_by_members [] [] a b to from = refl
  told_by_members [] (y ∷ ys) a b to from = absurd (Contains-nil y (from y (Contains-head y ys)))
  told_by_members (x ∷ xs) [] a b to from = absurd (Contains-nil x (to x (Contains-head x xs)))
  told_by_members (x ∷ xs) (y ∷ ys) a b to from =
      let first : x ≡ y = head (Contains-cons_cases y ys x (to x (Contains-head x xs))) (Contains-cons_cases x xs y (from y (Contains-head y ys))) in
      let others = told_by_members xs ys (rest_in_order x xs a) (rest_in_order y ys b) (rest_has x y xs ys first a to) (rest_has y x ys xs (sym first) b from) in
      λ i. first i ∷ others i
    where
      head : (y ≡ x) ⊎ Contains ys x → (x ≡ y) ⊎ Contains xs y → x ≡ y
      head (inl e) k = sym e
      head (inr h) (inl e) = e
      head (inr h) (inr k) = absurd (apart x y (first_before x xs a y k) (first_before y ys b x h))

not_both_before : (p q : List ℕ) → slice_cmp nat_cmp p q ≡ Less → slice_cmp nat_cmp q p ≡ Less → ⊥
not_both_before p q e f = let g = slice_cmp-Greater p q e in cc

-- a formula's variables are one list
pub one_list_of_variables : (a : Formula) (names others : List (List ℕ)) → AreVariables a names → AreVariables a others → names ≡ others
one_list_of_variables a names others h k =
    told_by_members (λ p q. slice_cmp nat_cmp p q ≡ Less) not_both_before names others h.ordered k.ordered
    (λ p m. (k.variables p).1 ((h.variables p).0 m)) (λ p m. (h.variables p).1 ((k.variables p).0 m))

-- two names of which each is the formula's first variable are the same
pub one_first_variable : (a : Formula) (p q : List ℕ) → IsFirstVariable p a → IsFirstVariable q a → p ≡ q
one_first_variable a p q first second = by (first.first q second.occurs) (second.first p first.occurs)
  where
    by : (q ≡ p) ⊎ (slice_cmp nat_cmp p q ≡ Less) → (p ≡ q) ⊎ (slice_cmp nat_cmp q p ≡ Less) → p ≡ q
    by (inl same) other = sym same
    by (inr before) (inl same) = same
    by (inr before) (inr behind) = absurd (not_both_before p q before behind)
