-- All pairs of worlds, and how many of them pass a test.
use Rattle.std.proofs.Common.{◌≡◌, ℕ, ◌<◌, ◌≤◌, zero, suc, Bool, true, false, cond, List, [], ◌∷◌, ◌++◌, length, ⊎_elim, refl, ap, subst, sym, arith}
use Rattle.std.proofs.lemmas.Bool.{false≢true, cases_eq, cases_lt}
use Rattle.std.specs.List.{Contains, filter}
use Rattle.std.proofs.lemmas.List.Elements.{Contains-append_left, Contains-append_right, Contains-append_cases}
use Rattle.lw_formula.proofs.ListMembers.{Contains-nil, Contains-head, Contains-tail, Contains-cons_cases}

-- v with each number below n
abbrev pub pairs_of : ℕ → ℕ → List (ℕ × ℕ)
pairs_of v zero = []
pairs_of v (suc n) = (v, n) ∷ pairs_of v n

-- each number below k with each number below n
abbrev pub pairs_below : ℕ → ℕ → List (ℕ × ℕ)
pairs_below zero n = []
pairs_below (suc k) n = pairs_of k n ++ pairs_below k n

pairs_of-Contains : (v n u : ℕ) → u < n → Contains (pairs_of v n) (v, u)
pairs_of-Contains v zero u l = let bad : ⊥ = omega arith in absurd bad
pairs_of-Contains v (suc n) u l =
    ⊎_elim
    (λ at. subst (λ y. Contains (pairs_of v (suc n)) (v, y)) (sym at) (Contains-head (v, n) (pairs_of v n)))
    (λ other. Contains-tail (v, n) (pairs_of v n) (v, u) (pairs_of-Contains v n u (omega arith)))
    (cases_eq u n)

pairs_of-cases : (v n : ℕ) (p : ℕ × ℕ) → Contains (pairs_of v n) p → (v ≡ p.0) × (p.1 < n)
pairs_of-cases v zero p h = absurd (Contains-nil p h)
pairs_of-cases v (suc n) p h =
    ⊎_elim
    (λ same. let at : n ≡ p.1 = ap (λ q. q.1) same in (ap (λ q. q.0) same, omega arith))
    (λ later. let r = pairs_of-cases v n p later in let l : p.1 < n = r.1 in (r.0, omega arith))
    (Contains-cons_cases (v, n) (pairs_of v n) p h)

pub pairs_below-Contains : (k n v u : ℕ) → v < k → u < n → Contains (pairs_below k n) (v, u)
pairs_below-Contains zero n v u l h = let bad : ⊥ = omega arith in absurd bad
pairs_below-Contains (suc k) n v u l h =
    ⊎_elim
    (λ at. Contains-append_left (pairs_of k n) (pairs_below k n) (v, u) (subst (λ y. Contains (pairs_of k n) (y, u)) (sym at) (pairs_of-Contains k n u h)))
    (λ other. Contains-append_right (pairs_of k n) (pairs_below k n) (v, u) (pairs_below-Contains k n v u (omega arith) h))
    (cases_eq v k)

pub pairs_below-cases : (k n : ℕ) (p : ℕ × ℕ) → Contains (pairs_below k n) p → (p.0 < k) × (p.1 < n)
pairs_below-cases zero n p h = absurd (Contains-nil p h)
pairs_below-cases (suc k) n p h =
    ⊎_elim
    (λ first. let r = pairs_of-cases k n p first in let at : k ≡ p.0 = r.0 in (omega arith, r.1))
    (λ later. let r = pairs_below-cases k n p later in let l : p.0 < k = r.0 in (omega arith, r.1))
    (Contains-append_cases (pairs_of k n) (pairs_below k n) p h)

-- a stronger test passes no more, and where it passes as many it passes the same
pub fewer_pass : {X : Type 0} (p q : X → Bool) → ((x : X) → q x ≡ true → p x ≡ true) → (xs : List X) → length (filter q xs) ≤ length (filter p xs)
fewer_pass p q h [] = omega arith
fewer_pass p q h (x ∷ xs) = next p q xs x (p x) (q x) (h x) (fewer_pass p q h xs)
  where
    next : {X : Type 0} (p q : X → Bool) (xs : List X) (x : X) (b c : Bool) → (c ≡ true → b ≡ true) → length (filter q xs) ≤ length (filter p xs) → length (cond c (x ∷ filter q xs) (filter q xs)) ≤ length (cond b (x ∷ filter p xs) (filter p xs))
    next p q xs x true true e l = omega arith
    next p q xs x true false e l = omega arith
    next p q xs x false true e l = absurd (false≢true (e refl))
    next p q xs x false false e l = l

pub same_pass : {X : Type 0} (p q : X → Bool) → ((x : X) → q x ≡ true → p x ≡ true) → (xs : List X) → length (filter p xs) ≤ length (filter q xs) → (x : X) → Contains xs x → p x ≡ true → q x ≡ true
same_pass p q h [] l x there t = absurd (Contains-nil x there)
same_pass p q h (y ∷ ys) l x there t =
    let both = next p q ys y (p y) (q y) (h y) l (fewer_pass p q h ys) in
    ⊎_elim
    (λ same. subst (λ z. q z ≡ true) same (both.0 (subst (λ z. p z ≡ true) (sym same) t)))
    (λ later. same_pass p q h ys both.1 x later t)
    (Contains-cons_cases y ys x there)
  where
    next : {X : Type 0} (p q : X → Bool) (ys : List X) (y : X) (b c : Bool) → (c ≡ true → b ≡ true) → length (cond b (y ∷ filter p ys) (filter p ys)) ≤ length (cond c (y ∷ filter q ys) (filter q ys)) → length (filter q ys) ≤ length (filter p ys) → (b ≡ true → c ≡ true) × (length (filter p ys) ≤ length (filter q ys))
    next p q ys y true true e l f = (λ s. refl, omega arith)
    next p q ys y true false e l f = let bad : ⊥ = omega arith in absurd bad
    next p q ys y false true e l f = absurd (false≢true (e refl))
    next p q ys y false false e l f = (λ s. s, l)

-- numbers that never rise stand still somewhere
pub stand_still : (f : ℕ → ℕ) → ((k : ℕ) → f (suc k) ≤ f k) → (b : ℕ) → f zero ≤ b → (k : ℕ) × (f k ≤ f (suc k))
stand_still f down zero l = (zero, omega arith)
stand_still f down (suc b) l =
    ⊎_elim
    (λ falls. let r = stand_still (λ k. f (suc k)) (λ k. down (suc k)) b (omega arith) in (suc r.0, r.1))
    (λ stays. (zero, stays))
    (cases_lt (f (suc zero)) (f zero))
