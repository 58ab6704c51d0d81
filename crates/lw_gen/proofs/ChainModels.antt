-- Chains of worlds that refute the families of transitive and of reflexive frames.
use Rattle.std.proofs.Common.{◌≡◌, ◌≤◌, ◌<◌, ◌+◌, ℕ, zero, suc, List, ◌++◌, codes, ⊎_elim, ap, arith}
use Rattle.std.specs.List.{Contains}
use Rattle.std.proofs.lemmas.List.Elements.{Contains-append_left, Contains-append_right, Contains-append_cases}
use Rattle.lw_formula.specs.declared.logic.Logic.TheVariants.{K, KT, GL, K4, KD}
use Rattle.lw_formula.specs.FiniteModel.{FiniteModel, IsWellFormed, Sees}
use Rattle.lw_formula.specs.Truth.{IsTrueAt}
use Rattle.lw_formula.specs.Validity.{Valid}
use Rattle.lw_formula.proofs.ListMembers.{Contains-nil, All-members, AreDistinct-append}
use Rattle.lw_fix.proofs.StrictOrders.{each, each-cases, each-has, each-distinct, order, rises, rising, order-IsWellFormed, order-Class}
use Rattle.lw_gen.specs.declared.families.Family.TheVariants.{Transitive, Reflexive}
use Rattle.lw_gen.specs.Families.{p, boxes, family_formula}

abbrev loops : ℕ → List (ℕ × ℕ)
loops n = each (λ v. (v, v)) n

abbrev steps : ℕ → List (ℕ × ℕ)
steps n = each (λ v. (v, v + 1)) n

-- the chain of the worlds 0 to n: each sees itself and the next one, and p is true at all but the last
abbrev chain : ℕ → FiniteModel
chain n = record { worlds = n + 1; pairs = loops (n + 1) ++ steps n; facts = each (λ v. (v, codes "p")) n }

-- what a pair of the chain is
record IsLink (n : ℕ) (x : ℕ × ℕ) : Type 0 where
  first : x.0 ≤ n
  second : x.1 ≤ n
  near : x.1 ≤ x.0 + 1

link : (n : ℕ) (x : ℕ × ℕ) → Contains (chain n).pairs x → IsLink n x
link n x h =
    ⊎_elim
    (λ a. let b = each-cases (λ v. (v, v)) (n + 1) x a in
    let at : b.0 ≡ x.0 = ap (λ y. y.0) b.2 in let to : b.0 ≡ x.1 = ap (λ y. y.1) b.2 in
    record { first = omega (arith, at, b.1); second = omega (arith, to, b.1); near = omega (arith, at, to) })
    (λ a. let b = each-cases (λ v. (v, v + 1)) n x a in
    let at : b.0 ≡ x.0 = ap (λ y. y.0) b.2 in let to : b.0 + 1 ≡ x.1 = ap (λ y. y.1) b.2 in
    record { first = omega (arith, at, b.1); second = omega (arith, to, b.1); near = omega (arith, at, to) })
    (Contains-append_cases (loops (n + 1)) (steps n) x h)

apart : (n : ℕ) (x : ℕ × ℕ) → Contains (loops (n + 1)) x → Contains (steps n) x → ⊥
apart n x a b =
    let c = each-cases (λ v. (v, v)) (n + 1) x a in
    let d = each-cases (λ v. (v, v + 1)) n x b in
    let at : c.0 ≡ x.0 = ap (λ y. y.0) c.2 in
    let to : c.0 ≡ x.1 = ap (λ y. y.1) c.2 in
    let from : d.0 ≡ x.0 = ap (λ y. y.0) d.2 in
    let on : d.0 + 1 ≡ x.1 = ap (λ y. y.1) d.2 in
    omega (arith, at, to, from, on)

chain-IsWellFormed : (n : ℕ) → IsWellFormed (chain n)
chain-IsWellFormed n = record {
  inhabited = omega arith;
  pairs_within = All-members (λ x. (x.0 < n + 1) × (x.1 < n + 1)) (chain n).pairs (λ x h. let l = link n x h in (omega (arith, l.first), omega (arith, l.second)));
  pairs_distinct = AreDistinct-append (loops (n + 1)) (steps n) (each-distinct (λ v. (v, v)) (n + 1) (λ u v e. ap (λ y. y.0) e))
      (each-distinct (λ v. (v, v + 1)) n (λ u v e. ap (λ y. y.0) e)) (apart n);
  facts_within = All-members (λ f. f.0 < n + 1) (chain n).facts (λ f h.
      let b = each-cases (λ v. (v, codes "p")) n f h in let at : b.0 ≡ f.0 = ap (λ y. y.0) b.2 in omega (arith, b.1, at));
  facts_distinct = each-distinct (λ v. (v, codes "p")) n (λ u v e. ap (λ y. y.0) e);
}

chain-loops : (n w : ℕ) → w < n + 1 → Sees (chain n) w w
chain-loops n w l = Contains-append_left (loops (n + 1)) (steps n) (w, w) (each-has (λ v. (v, v)) (n + 1) w l)

chain-steps : (n w : ℕ) → w < n → Sees (chain n) w (w + 1)
chain-steps n w l = Contains-append_right (loops (n + 1)) (steps n) (w, w + 1) (each-has (λ v. (v, v + 1)) n w l)

-- before its end p is true, under as many boxes as there are steps to the last world but one
chain-holds : (n k w : ℕ) → k + w < n → IsTrueAt (chain n) w (boxes k p)
chain-holds n zero w l = each-has (λ v. (v, codes "p")) n w (omega (arith, l))
chain-holds n (suc k) w l = λ v s. let b = link n (w, v) s in chain-holds n k v (omega (arith, l, b.near))

-- and under one more it isn't
chain-fails : (n k w : ℕ) → k + w ≡ n → ¬ IsTrueAt (chain n) w (boxes k p)
chain-fails n zero w e h = let b = each-cases (λ v. (v, codes "p")) n (w, codes "p") h in let at : b.0 ≡ w = ap (λ y. y.0) b.2 in omega (arith, e, at, b.1)
chain-fails n (suc k) w e h = chain-fails n k (w + 1) (omega (arith, e)) (h (w + 1) (chain-steps n w (omega (arith, e))))

pub chain-refutes : (i : ℕ) → ¬ IsTrueAt (chain (suc i)) 0 (family_formula Transitive i)
chain-refutes i h = chain-fails (suc i) (suc i) 0 (omega arith) (h (chain-holds (suc i) i 0 (omega arith)))

pub not_in_KT : (i : ℕ) → ¬ Valid KT (family_formula Transitive i)
not_in_KT i valid = chain-refutes i (valid (chain (suc i)) (record { well_formed = chain-IsWellFormed (suc i); frame = chain-loops (suc i) }) 0 (omega arith))

pub not_in_K : (i : ℕ) → ¬ Valid K (family_formula Transitive i)
not_in_K i valid = chain-refutes i (valid (chain (suc i)) (record { well_formed = chain-IsWellFormed (suc i); frame = tt }) 0 (omega arith))

-- each world of the chain sees one, itself
pub not_in_KD : (i : ℕ) → ¬ Valid KD (family_formula Transitive i)
not_in_KD i valid =
    chain-refutes i (valid (chain (suc i)) (record { well_formed = chain-IsWellFormed (suc i); frame = λ w l. (w, chain-loops (suc i) w l) }) 0 (omega arith))

-- where no path of k steps begins, all is true under k boxes
order-holds : (n k w : ℕ) → n ≤ k + w → w < n → IsTrueAt (order n) w (boxes k p)
order-holds n zero w l b = absurd (omega (arith, l, b))
order-holds n (suc k) w l b = λ v s. let r = rises n (w, v) s in order-holds n k v (omega (arith, l, r.0)) r.1

-- where one begins, p isn't
order-fails : (n k w : ℕ) → k + w + 1 ≡ n → ¬ IsTrueAt (order n) w (boxes k p)
order-fails n zero w e h = Contains-nil (w, codes "p") h
order-fails n (suc k) w e h = order-fails n k (w + 1) (omega (arith, e)) (h (w + 1) (rising n w (w + 1) (omega arith) (omega (arith, e))))

pub order-refutes : (i : ℕ) → ¬ IsTrueAt (order (suc i)) 0 (family_formula Reflexive i)
order-refutes i h = order-fails (suc i) i 0 (omega arith) (h (order-holds (suc i) (suc i) 0 (omega arith) (omega arith)))

pub irreflexive_in_GL : (i : ℕ) → ¬ Valid GL (family_formula Reflexive i)
irreflexive_in_GL i valid = order-refutes i (valid (order (suc i)) (order-Class (suc i) (omega arith)) 0 (omega arith))

pub irreflexive_in_K4 : (i : ℕ) → ¬ Valid K4 (family_formula Reflexive i)
irreflexive_in_K4 i valid =
    let c = order-Class (suc i) (omega arith) in
    order-refutes i (valid (order (suc i)) (record { well_formed = c.well_formed; frame = c.frame.0 }) 0 (omega arith))

pub irreflexive_in_K : (i : ℕ) → ¬ Valid K (family_formula Reflexive i)
irreflexive_in_K i valid = order-refutes i (valid (order (suc i)) (record { well_formed = order-IsWellFormed (suc i) (omega arith); frame = tt }) 0 (omega arith))
