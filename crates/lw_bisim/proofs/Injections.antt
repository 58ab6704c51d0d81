-- A map that takes the numbers below k to different numbers below n shows that k is at most n.
use Rattle.std.proofs.Common.{◌≡◌, ◌≢◌, ℕ, ◌<◌, ◌≤◌, zero, suc, List, [], ◌∷◌, length, ◌⊎◌, inl, inr, ⊎_elim, refl, subst, sym, arith}
use Rattle.std.proofs.lemmas.Bool.{cases_eq}
use Rattle.std.specs.List.{Contains}
use Rattle.lw_formula.specs.FiniteModel.{AreDistinct}
use Rattle.lw_formula.proofs.ListMembers.{Contains-nil, Contains-head, Contains-tail, Contains-cons_cases, AreDistinct-nil, AreDistinct-cons}
use Rattle.lw_pool.proofs.EqualLengths.{length-le_from_members}

-- what the map gives of the numbers below k
abbrev images : (ℕ → ℕ) → ℕ → List ℕ
images f zero = []
images f (suc k) = f k ∷ images f k

images-length : (f : ℕ → ℕ) (k : ℕ) → length (images f k) ≡ k
images-length f zero = refl
images-length f (suc k) = omega (arith, images-length f k)

images-Contains : (f : ℕ → ℕ) (k c : ℕ) → c < k → Contains (images f k) (f c)
images-Contains f zero c l = let bad : ⊥ = omega arith in absurd bad
images-Contains f (suc k) c l =
    ⊎_elim
    (λ at. subst (λ y. Contains (images f (suc k)) (f y)) (sym at) (Contains-head (f k) (images f k)))
    (λ other. Contains-tail (f k) (images f k) (f c) (images-Contains f k c (omega arith)))
    (cases_eq c k)

images-cases : (f : ℕ → ℕ) (k x : ℕ) → Contains (images f k) x → (c : ℕ) × (c < k) × (f c ≡ x)
images-cases f zero x h = absurd (Contains-nil x h)
images-cases f (suc k) x h =
    ⊎_elim
    (λ at. (k, omega arith, at))
    (λ later. let r = images-cases f k x later in let l : r.0 < k = r.1 in (r.0, omega arith, r.2))
    (Contains-cons_cases (f k) (images f k) x h)

-- the map gives different numbers below k different images
abbrev pub TakesApart : (ℕ → ℕ) → ℕ → Type 0
TakesApart f k = (c d : ℕ) → c < k → d < k → f c ≡ f d → c ≡ d

images-AreDistinct : (f : ℕ → ℕ) (k : ℕ) → TakesApart f k → AreDistinct (images f k)
images-AreDistinct f zero h = AreDistinct-nil
images-AreDistinct f (suc k) h =
    AreDistinct-cons (f k) (images f k)
    (λ there.
    let r = images-cases f k (f k) there in
    let l : r.0 < k = r.1 in
    let same : r.0 ≡ k = h r.0 k (omega arith) (omega arith) r.2 in
    omega arith)
    (images-AreDistinct f k (λ c d l m e. h c d (omega arith) (omega arith) e))

pub le-from_injection : (f : ℕ → ℕ) (k n : ℕ) → ((c : ℕ) → c < k → f c < n) → TakesApart f k → k ≤ n
le-from_injection f k n within apart =
    let some : length (images f k) ≤ length (images (λ x. x) n) =
    length-le_from_members (images f k) (images (λ x. x) n) (images-AreDistinct f k apart)
    (λ x h. let r = images-cases f k x h in images-Contains (λ y. y) n x (subst (λ y. y < n) r.2 (within r.0 r.1))) in
    omega (arith, images-length f k, images-length (λ x. x) n)

-- some number below k has the image, or none has
found : (f : ℕ → ℕ) (k x : ℕ) → ((c : ℕ) × (c < k) × (f c ≡ x)) ⊎ ((c : ℕ) → c < k → f c ≢ x)
found f zero x = inr (λ c l e. let bad : ⊥ = omega arith in absurd bad)
found f (suc k) x =
    ⊎_elim
    (λ at. inl (k, omega arith, at))
    (λ other. ⊎_elim
    (λ r. let l : r.0 < k = r.1 in inl (r.0, omega arith, r.2))
    (λ none. inr (λ c l e. ⊎_elim
    (λ last. other (subst (λ y. f y ≡ x) last e))
    (λ before. none c (omega arith) e)
    (cases_eq c k)))
    (found f k x))
    (cases_eq (f k) x)

-- a map that takes the numbers below k to different numbers below k has each of them for an image
pub onto : (f : ℕ → ℕ) (k : ℕ) → ((c : ℕ) → c < k → f c < k) → TakesApart f k → (x : ℕ) → x < k → (c : ℕ) × (c < k) × (f c ≡ x)
onto f k within apart x l = ⊎_elim (λ r. r) (λ none. absurd (too_many none)) (found f k x)
  where
    too_many : ((c : ℕ) → c < k → f c ≢ x) → ⊥
    too_many none =
        let all : length (x ∷ images f k) ≤ length (images (λ y. y) k) =
        length-le_from_members (x ∷ images f k) (images (λ y. y) k)
        (AreDistinct-cons x (images f k) (λ there. let r = images-cases f k x there in none r.0 r.1 r.2) (images-AreDistinct f k apart))
        (λ y h. images-Contains (λ z. z) k y (⊎_elim
        (λ e. subst (λ z. z < k) e l)
        (λ later. let r = images-cases f k y later in subst (λ z. z < k) r.2 (within r.0 r.1))
        (Contains-cons_cases x (images f k) y h))) in
        omega (arith, images-length f k, images-length (λ y. y) k)
