-- In a model of GL the heights that are looked for along bounded paths are those of the worlds.
use Rattle.std.proofs.Common.{◌≡◌, ℕ, zero, suc, ◌+◌, ◌<◌, ◌≤◌, ◌==◌, max, List, [], ◌∷◌, length, map, ◌⊎◌, ◌↔◌, inl, inr, ⊎_elim, refl, sym, ap, ◌∙◌, subst, arith}
use Rattle.std.specs.List.{Contains, filter}
use Rattle.std.proofs.lemmas.Bool.{cases_lt}
use Rattle.std.proofs.lemmas.Bool.Decides.{Decides-eqb}
use Rattle.lw_formula.specs.declared.logic.Logic.TheVariants.{GL}
use Rattle.lw_formula.specs.Class.{Class, IsTransitive, IsIrreflexive}
use Rattle.lw_formula.specs.FiniteModel.{FiniteModel, Sees}
use Rattle.lw_formula.proofs.ListMembers.{Contains-nil, Contains-head, Contains-tail, Contains-cons_cases, Contains-filter, Contains-filter_cases}
use Rattle.lw_fix.proofs.WorldInduction.{climb_counted}
use Rattle.lw_trace.specs.Heights.{greatest, seen_from, height_within, height, AreHeights}
use Rattle.lw_trace.proofs.MappedLists.{map-Contains, map-Contains_cases, map-same}

-- a list has a member or is empty
pub member_or_none : {X : Type 0} (xs : List X) → ((x : X) × Contains xs x) ⊎ (xs ≡ [])
member_or_none [] = inr refl
member_or_none (x ∷ xs) = inl (x, Contains-head x xs)

greatest-le : (ns : List ℕ) (n : ℕ) → Contains ns n → n ≤ greatest ns
greatest-le [] n h = absurd (Contains-nil n h)
greatest-le (k ∷ ns) n h =
    ⊎_elim
    (λ e. omega (arith, e))
    (λ rest. omega (arith, greatest-le ns n rest))
    (Contains-cons_cases k ns n h)

-- where it isn't 0, it is one of the numbers
greatest-Contains : (ns : List ℕ) → 0 < greatest ns → Contains ns (greatest ns)
greatest-Contains [] l = absurd (omega arith)
greatest-Contains (k ∷ ns) l = by_order (λ some. greatest-Contains ns some) (cases_lt k (greatest ns))
  where
    by_order : (0 < greatest ns → Contains ns (greatest ns)) → (k < greatest ns) ⊎ (greatest ns ≤ k) → Contains (k ∷ ns) (max k (greatest ns))
    by_order rest (inl less) =
        let e : greatest ns ≡ max k (greatest ns) = omega arith in
        subst (Contains (k ∷ ns)) e (Contains-tail k ns (greatest ns) (rest (omega arith)))
    by_order rest (inr more) =
        let e : k ≡ max k (greatest ns) = omega arith in
        subst (Contains (k ∷ ns)) e (Contains-head k ns)

-- the list of the worlds seen has those that are seen
seen_from-Sees : (m : FiniteModel) (w v : ℕ) → Contains (seen_from m w) v ↔ Sees m w v
seen_from-Sees m w v = (
  λ h.
      let some = map-Contains_cases (λ (p : ℕ × ℕ). p.1) (filter (λ p. p.0 == w) m.pairs) v h in
      let pair = Contains-filter_cases (λ p. p.0 == w) m.pairs some.0 some.1 in
      let from : some.0.0 ≡ w = (Decides-eqb some.0.0 w).0 pair.1 in
      subst (Contains m.pairs) (λ i. (from i, some.2 i)) pair.0,
  λ s. map-Contains (λ (p : ℕ × ℕ). p.1) (filter (λ p. p.0 == w) m.pairs) (w, v)
      (Contains-filter (λ p. p.0 == w) m.pairs (w, v) s ((Decides-eqb w w).1 refl)),
)

none_seen : (m : FiniteModel) (w : ℕ) → ((v : ℕ) → ¬ Sees m w v) → seen_from m w ≡ []
none_seen m w none = ⊎_elim (λ some. absurd (none some.0 ((seen_from-Sees m w some.0).0 some.1))) (λ e. e) (member_or_none (seen_from m w))

-- a world sees some world or none
pub sees_or_none : (m : FiniteModel) (w : ℕ) → ((v : ℕ) × Sees m w v) ⊎ ((v : ℕ) → ¬ Sees m w v)
sees_or_none m w =
    ⊎_elim
    (λ some. inl (some.0, (seen_from-Sees m w some.0).0 some.1))
    (λ e. inr (λ v s. Contains-nil v (subst (λ vs. Contains vs v) e ((seen_from-Sees m w v).1 s))))
    (member_or_none (seen_from m w))

-- longer paths tell no more than those of as many steps as there are pairs
height_within-settled : (m : FiniteModel) → IsTransitive m → IsIrreflexive m → (w k : ℕ) → length m.pairs ≤ k → height_within k m w ≡ height m w
height_within-settled m up apart =
    climb_counted m up apart (λ n w. (k : ℕ) → n ≤ k → height_within k m w ≡ height_within n m w) lowest higher
  where
    lowest : (w : ℕ) → ((u : ℕ) → ¬ Sees m w u) → (k : ℕ) → 0 ≤ k → height_within k m w ≡ 0
    lowest w none zero l = refl
    lowest w none (suc k) l = ap (λ vs. greatest (map (λ v. height_within k m v + 1) vs)) (none_seen m w none)

    higher : (n w : ℕ) → ((u : ℕ) → Sees m w u → (k : ℕ) → n ≤ k → height_within k m u ≡ height_within n m u) →
        (k : ℕ) → suc n ≤ k → height_within k m w ≡ height_within (suc n) m w
    higher n w above zero l = absurd (omega (arith, l))
    higher n w above (suc k) l =
        ap greatest
        (map-same (λ v. height_within k m v + 1) (λ v. height_within n m v + 1) (seen_from m w)
        (λ v h. ap (λ (i : ℕ). i + 1) (above v ((seen_from-Sees m w v).0 h) k (omega (arith, l)))))

-- the height of a world from those of the worlds that it sees
height-unfolded : (m : FiniteModel) → IsTransitive m → IsIrreflexive m → (w : ℕ) → height m w ≡ greatest (map (λ v. height m v + 1) (seen_from m w))
height-unfolded m up apart w = sym (height_within-settled m up apart w (suc (length m.pairs)) (omega arith))

pub height-AreHeights : (m : FiniteModel) → Class GL m → AreHeights m (height m)
height-AreHeights m class = record {
  lowest = λ w none. unfolded w ∙ ap (λ vs. greatest (map (λ v. height m v + 1) vs)) (none_seen m w none);
  higher = λ w v s. record { smaller = smaller w; next = next w v s };
}
  where
    unfolded : (w : ℕ) → height m w ≡ greatest (map (λ v. height m v + 1) (seen_from m w))
    unfolded = height-unfolded m class.frame.0 class.frame.1

    smaller : (w v : ℕ) → Sees m w v → height m v < height m w
    smaller w v s =
        let least = greatest-le (map (λ u. height m u + 1) (seen_from m w)) (height m v + 1)
        (map-Contains (λ u. height m u + 1) (seen_from m w) v ((seen_from-Sees m w v).1 s)) in
        omega (arith, least, unfolded w)

    next : (w v : ℕ) → Sees m w v → (u : ℕ) × Sees m w u × (height m w ≡ height m u + 1)
    next w v s =
        let some = map-Contains_cases (λ u. height m u + 1) (seen_from m w) (greatest (map (λ u. height m u + 1) (seen_from m w)))
        (greatest-Contains (map (λ u. height m u + 1) (seen_from m w)) (omega (arith, smaller w v s, unfolded w))) in
        (some.0, (seen_from-Sees m w some.0).0 some.1, unfolded w ∙ sym some.2)
