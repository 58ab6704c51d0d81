-- From the modal depth on the truth value of a letterless formula doesn't change.
use Rattle.std.proofs.Common.{◌≡◌, ℕ, ◌<◌, ◌≤◌, Bool, true, not, ◌&&◌, ◌||◌, ⊎_elim, refl, ap, ◌∙◌, arith}
use Rattle.std.specs.Bool.{beq}
use Rattle.std.proofs.lemmas.Bool.{cases_lt}
use Rattle.lw_formula.specs.Formula.{Formula, letter, falsum, verum, neg, conj, disj, impl, equi, nec, poss, depth}
use Rattle.lw_fix.proofs.AlikeFormulas.{bool_same}
use Rattle.lw_trace.specs.LetterlessTruth.{holds_at}
use Rattle.lw_trace.proofs.BelowHeights.{all_below, some_below}

-- f has one value from d on
abbrev IsSettled : (ℕ → Bool) → ℕ → Type 0
IsSettled f d = (n k : ℕ) → d ≤ n → d ≤ k → f n ≡ f k

-- what is true at all heights below n is so below any, as n is above d
all_further : (f : ℕ → Bool) (d : ℕ) → IsSettled f d → (n k : ℕ) → d < n → ((i : ℕ) → i < n → f i ≡ true) → (i : ℕ) → i < k → f i ≡ true
all_further f d settled n k l all i b = ⊎_elim (λ less. all i less) (λ more. settled i d (omega (arith, l, more)) (omega arith) ∙ all d l) (cases_lt i n)

-- what is true at some height is so at one below n
some_nearer : (f : ℕ → Bool) (d : ℕ) → IsSettled f d → (n k : ℕ) → d < n → (i : ℕ) × (i < k) × (f i ≡ true) → (i : ℕ) × (i < n) × (f i ≡ true)
some_nearer f d settled n k l some =
    ⊎_elim (λ less. (some.0, less, some.2)) (λ more. (d, l, settled d some.0 (omega arith) (omega (arith, l, more)) ∙ some.2)) (cases_lt some.0 n)

pub holds_at-settled : (a : Formula) → (n k : ℕ) → depth a ≤ n → depth a ≤ k → holds_at a n ≡ holds_at a k
holds_at-settled (letter p) n k l r = refl
holds_at-settled falsum n k l r = refl
holds_at-settled verum n k l r = refl
holds_at-settled (neg a) n k l r = ap not (holds_at-settled a n k l r)
holds_at-settled (conj a b) n k l r =
    λ i. holds_at-settled a n k (omega (arith, l)) (omega (arith, r)) i && holds_at-settled b n k (omega (arith, l)) (omega (arith, r)) i
holds_at-settled (disj a b) n k l r =
    λ i. holds_at-settled a n k (omega (arith, l)) (omega (arith, r)) i || holds_at-settled b n k (omega (arith, l)) (omega (arith, r)) i
holds_at-settled (impl a b) n k l r =
    λ i. not (holds_at-settled a n k (omega (arith, l)) (omega (arith, r)) i) || holds_at-settled b n k (omega (arith, l)) (omega (arith, r)) i
holds_at-settled (equi a b) n k l r =
    λ i. beq (holds_at-settled a n k (omega (arith, l)) (omega (arith, r)) i) (holds_at-settled b n k (omega (arith, l)) (omega (arith, r)) i)
holds_at-settled (nec a) n k l r =
    bool_same (holds_at (nec a) n) (holds_at (nec a) k)
    (λ t. (all_below (holds_at a) k).1 (all_further (holds_at a) (depth a) (holds_at-settled a) n k (omega (arith, l)) ((all_below (holds_at a) n).0 t)))
    (λ t. (all_below (holds_at a) n).1 (all_further (holds_at a) (depth a) (holds_at-settled a) k n (omega (arith, r)) ((all_below (holds_at a) k).0 t)))
holds_at-settled (poss a) n k l r =
    bool_same (holds_at (poss a) n) (holds_at (poss a) k)
    (λ t. (some_below (holds_at a) k).1 (some_nearer (holds_at a) (depth a) (holds_at-settled a) k n (omega (arith, r)) ((some_below (holds_at a) n).0 t)))
    (λ t. (some_below (holds_at a) n).1 (some_nearer (holds_at a) (depth a) (holds_at-settled a) n k (omega (arith, l)) ((some_below (holds_at a) k).0 t)))
