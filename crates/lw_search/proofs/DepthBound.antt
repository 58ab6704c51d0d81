-- The modal depth is at most the number of modal subformulas.
use Rattle.std.proofs.Common.{◌≡◌, ℕ, ◌+◌, ◌<◌, ◌≤◌, zero, suc, max, true, ◌⊎◌, inl, inr, refl, arith}
use Rattle.std.proofs.lemmas.Bool.{cases_lt}
use Rattle.lw_formula.specs.Formula.{Formula, letter, falsum, verum, neg, conj, disj, impl, equi, nec, poss, depth, is_modal, subformulas, modal_subformulas, modal_count, IsSubformula}
use Rattle.lw_formula.proofs.ListMembers.{Contains-filter}
use Rattle.lw_formula.proofs.SubformulaLists.{subformulas-IsSubformula}
use Rattle.lw_search.specs.Step.{count_below}
use Rattle.lw_search.proofs.ItemCounts.{count_within}

-- c is a modal subformula of a with this depth
record IsLayer (a : Formula) (k : ℕ) (c : Formula) : Type 0 where
  within : IsSubformula c a
  modal : is_modal c ≡ true
  deep : depth c ≡ k + 1

-- what is one of a subformula is one of the formula
moved : (a b : Formula) (k : ℕ) → ((c : Formula) → IsSubformula c a → IsSubformula c b) → (c : Formula) × IsLayer a k c → (c : Formula) × IsLayer b k c
moved a b k up (c, r) = (c, record { within = up c r.within; modal = r.modal; deep = r.deep })

-- where the formula is no deeper than its operands, one of them has one
of_two : (f a b : Formula) (k : ℕ) → ((c : Formula) → IsSubformula c a ⊎ IsSubformula c b → IsSubformula c f) → k < max (depth a) (depth b) →
    (k < depth a → (c : Formula) × IsLayer a k c) → (k < depth b → (c : Formula) × IsLayer b k c) → (c : Formula) × IsLayer f k c
of_two f a b k up l left right = elim (cases_lt k (depth a)) [
  | inl in_a ↦ moved a f k (λ c h. up c (inl h)) (left in_a)
  | inr above ↦ moved b f k (λ c h. up c (inr h)) (right (omega arith))
]

-- there is one of each depth up to the formula's own
layer : (a : Formula) (k : ℕ) → k < depth a → (c : Formula) × IsLayer a k c
layer (letter p) k l = absurd (omega arith)
layer falsum k l = absurd (omega arith)
layer verum k l = absurd (omega arith)
layer (neg a) k l = moved a (neg a) k (λ c h. inr h) (layer a k l)
layer (conj a b) k l = of_two (conj a b) a b k (λ c h. inr h) l (layer a k) (layer b k)
layer (disj a b) k l = of_two (disj a b) a b k (λ c h. inr h) l (layer a k) (layer b k)
layer (impl a b) k l = of_two (impl a b) a b k (λ c h. inr h) l (layer a k) (layer b k)
layer (equi a b) k l = of_two (equi a b) a b k (λ c h. inr h) l (layer a k) (layer b k)
layer (nec a) k l = elim (cases_lt k (depth a)) [
  | inl lower ↦ moved a (nec a) k (λ c h. inr h) (layer a k lower)
  | inr here ↦ (nec a, record { within = inl refl; modal = refl; deep = omega arith })
]
layer (poss a) k l = elim (cases_lt k (depth a)) [
  | inl lower ↦ moved a (poss a) k (λ c h. inr h) (layer a k lower)
  | inr here ↦ (poss a, record { within = inl refl; modal = refl; deep = omega arith })
]

-- all numbers below n
count_all : (n : ℕ) → count_below (λ _. true) n ≡ n
count_all zero = refl
count_all (suc n) = let h : count_below (λ _. true) n ≡ n = count_all n in omega arith

-- a formula has no fewer modal subformulas than it is deep
pub depth_few : (a : Formula) → depth a ≤ modal_count a
depth_few a =
    let few : count_below (λ _. true) (depth a) ≤ modal_count a =
    count_within (IsLayer a) (λ _. true) (depth a) (modal_subformulas a)
    (λ k l _. (let r = layer a k l in (r.0, Contains-filter is_modal (subformulas a) r.0 ((subformulas-IsSubformula a r.0).1 r.1.within) r.1.modal, r.1)))
    (λ i j c _ _ _ _ p q. (let one : depth c ≡ i + 1 = p.deep in let other : depth c ≡ j + 1 = q.deep in omega arith)) in
    omega (arith, count_all (depth a))
