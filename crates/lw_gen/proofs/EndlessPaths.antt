-- Paths without end that refute the family of reflexive frames where each world sees one.
use Rattle.std.proofs.Common.{◌≡◌, ◌≤◌, ◌<◌, ◌+◌, ℕ, zero, suc, List, [], ◌∷◌, ◌⊎◌, inl, inr, codes, ⊎_elim, ap, sym, subst, arith}
use Rattle.std.specs.List.{Contains}
use Rattle.std.proofs.lemmas.Bool.{cases_eq}
use Rattle.std.proofs.lemmas.List.Elements.{All-nil, All-cons}
use Rattle.lw_formula.specs.declared.logic.Logic.TheVariants.{KD}
use Rattle.lw_formula.specs.FiniteModel.{FiniteModel, IsWellFormed, Sees}
use Rattle.lw_formula.specs.Class.{IsSerial}
use Rattle.lw_formula.specs.Truth.{IsTrueAt}
use Rattle.lw_formula.specs.Validity.{Valid}
use Rattle.lw_formula.proofs.ListMembers.{Contains-nil, Contains-head, Contains-tail, Contains-cons_cases, All-members, AreDistinct-nil, AreDistinct-cons}
use Rattle.lw_fix.proofs.StrictOrders.{each, each-cases, each-has, each-distinct}
use Rattle.lw_gen.specs.declared.families.Family.TheVariants.{Reflexive}
use Rattle.lw_gen.specs.Families.{p, boxes, family_formula}

abbrev steps : ℕ → List (ℕ × ℕ)
steps n = each (λ v. (v, v + 1)) n

-- the worlds 0 to n: each sees the next one alone, the last one itself, and p is true at the last alone
abbrev path : ℕ → FiniteModel
path n = record { worlds = n + 1; pairs = (n, n) ∷ steps n; facts = (n, codes "p") ∷ [] }

-- what a pair of the path is: the last world with itself, or a world with the next one
link : (n : ℕ) (x : ℕ × ℕ) → Contains (path n).pairs x → ((x.0 ≡ n) × (x.1 ≡ n)) ⊎ ((x.0 < n) × (x.1 ≡ x.0 + 1))
link n x h =
    ⊎_elim
    (λ e. inl (sym (ap (λ y. y.0) e), sym (ap (λ y. y.1) e)))
    (λ a. let b = each-cases (λ v. (v, v + 1)) n x a in
    let at : b.0 ≡ x.0 = ap (λ y. y.0) b.2 in let to : b.0 + 1 ≡ x.1 = ap (λ y. y.1) b.2 in
    inr (omega (arith, at, b.1), omega (arith, at, to)))
    (Contains-cons_cases (n, n) (steps n) x h)

-- both of its worlds are worlds
link-within : (n : ℕ) (x : ℕ × ℕ) → Contains (path n).pairs x → (x.0 < n + 1) × (x.1 < n + 1)
link-within n x h =
    ⊎_elim
    (λ e. let at = e.0 in let to = e.1 in (omega (arith, at), omega (arith, to)))
    (λ e. let at = e.0 in let to = e.1 in (omega (arith, at), omega (arith, at, to)))
    (link n x h)

path-IsWellFormed : (n : ℕ) → IsWellFormed (path n)
path-IsWellFormed n = record {
  inhabited = omega arith;
  pairs_within = All-members (λ x. (x.0 < n + 1) × (x.1 < n + 1)) (path n).pairs (link-within n);
  pairs_distinct = AreDistinct-cons (n, n) (steps n)
      (λ h. let b = each-cases (λ v. (v, v + 1)) n (n, n) h in let at : b.0 ≡ n = ap (λ y. y.0) b.2 in let bad : ⊥ = omega (arith, b.1, at) in bad)
      (each-distinct (λ v. (v, v + 1)) n (λ u v e. ap (λ y. y.0) e));
  facts_within = All-cons (λ f. f.0 < n + 1) (n, codes "p") [] (omega arith) (All-nil (λ f. f.0 < n + 1));
  facts_distinct = AreDistinct-cons (n, codes "p") [] (Contains-nil (n, codes "p")) AreDistinct-nil;
}

path-steps : (n w : ℕ) → w < n → Sees (path n) w (w + 1)
path-steps n w l = Contains-tail (n, n) (steps n) (w, w + 1) (each-has (λ v. (v, v + 1)) n w l)

path-IsSerial : (n : ℕ) → IsSerial (path n)
path-IsSerial n w l =
    ⊎_elim
    (λ e. (n, subst (λ u. Sees (path n) u n) (sym e) (Contains-head (n, n) (steps n))))
    (λ other. (w + 1, path-steps n w (omega arith)))
    (cases_eq w n)

-- under as many boxes as there are steps to the last world, or more, p is true
path-holds : (n k w : ℕ) → w ≤ n → n ≤ k + w → IsTrueAt (path n) w (boxes k p)
path-holds n zero w b l =
    let last : w ≡ n = omega (arith, b, l) in
    subst (λ u. IsTrueAt (path n) u p) (sym last) (Contains-head (n, codes "p") [])
path-holds n (suc k) w b l = λ v s. ⊎_elim
    (λ e. let to = e.1 in path-holds n k v (omega (arith, to)) (omega (arith, to)))
    (λ e. let at = e.0 in let to = e.1 in path-holds n k v (omega (arith, at, to)) (omega (arith, l, to)))
    (link n (w, v) s)

-- under one less it isn't
path-fails : (n k w : ℕ) → k + w + 1 ≡ n → ¬ IsTrueAt (path n) w (boxes k p)
path-fails n zero w e h =
    ⊎_elim
    (λ same. let at : n ≡ w = ap (λ y. y.0) same in omega (arith, e, at))
    (λ none. Contains-nil (w, codes "p") none)
    (Contains-cons_cases (n, codes "p") [] (w, codes "p") h)
path-fails n (suc k) w e h = path-fails n k (w + 1) (omega (arith, e)) (h (w + 1) (path-steps n w (omega (arith, e))))

path-refutes : (i : ℕ) → ¬ IsTrueAt (path (suc i)) 0 (family_formula Reflexive i)
path-refutes i h = path-fails (suc i) i 0 (omega arith) (h (path-holds (suc i) (suc i) 0 (omega arith) (omega arith)))

pub irreflexive_in_KD : (i : ℕ) → ¬ Valid KD (family_formula Reflexive i)
irreflexive_in_KD i valid =
    path-refutes i (valid (path (suc i)) (record { well_formed = path-IsWellFormed (suc i); frame = path-IsSerial (suc i) }) 0 (omega arith))
