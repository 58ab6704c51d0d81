-- A formula has more distinct subformulas than its modal depth.
use Rattle.std.proofs.Common.{◌<◌, ◌≤◌, [], ◌∷◌, inl, inr, arith, length-append}
use Rattle.lw_formula.specs.Formula.{Formula, letter, falsum, verum, neg, conj, disj, impl, equi, nec, poss, depth, IsSubformula, subformulas, subformula_count}
use Rattle.lw_formula.proofs.SubformulaLists.{subformulas-IsSubformula, subformulas-AreDistinct}
use Rattle.lw_pool.proofs.EqualLengths.{length-le_from_members}

-- a formula whose subformulas are subformulas of another has no more
no_more : (a b : Formula) → ((c : Formula) → IsSubformula c a → IsSubformula c b) → subformula_count a ≤ subformula_count b
no_more a b sub =
    length-le_from_members (subformulas a) (subformulas b) (subformulas-AreDistinct a)
    (λ c h. (subformulas-IsSubformula b c).1 (sub c ((subformulas-IsSubformula a c).0 h)))

pub depth-few : (a : Formula) → depth a < subformula_count a
depth-few (letter p) = omega arith
depth-few falsum = omega arith
depth-few verum = omega arith
depth-few (neg a) = omega (arith, depth-few a, no_more a (neg a) (λ c s. inr s))
depth-few (conj a b) = omega (arith, depth-few a, depth-few b, no_more a (conj a b) (λ c s. inr (inl s)), no_more b (conj a b) (λ c s. inr (inr s)))
depth-few (disj a b) = omega (arith, depth-few a, depth-few b, no_more a (disj a b) (λ c s. inr (inl s)), no_more b (disj a b) (λ c s. inr (inr s)))
depth-few (impl a b) = omega (arith, depth-few a, depth-few b, no_more a (impl a b) (λ c s. inr (inl s)), no_more b (impl a b) (λ c s. inr (inr s)))
depth-few (equi a b) = omega (arith, depth-few a, depth-few b, no_more a (equi a b) (λ c s. inr (inl s)), no_more b (equi a b) (λ c s. inr (inr s)))
depth-few (nec a) = omega (arith, depth-few a, length-append (subformulas a) (nec a ∷ []))
depth-few (poss a) = omega (arith, depth-few a, length-append (subformulas a) (poss a ∷ []))
