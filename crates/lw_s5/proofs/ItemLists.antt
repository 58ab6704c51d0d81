-- Lists of the items that a set has below a number.
use Rattle.std.proofs.Common.{◌≡◌, ℕ, ◌+◌, ◌<◌, Bool, true, false, ◌&&◌, List, [], ◌∷◌, ◌++◌, eqb, ltb, inl, inr, refl, sym, ap, subst, ◌∙◌, arith}
use Rattle.std.proofs.lemmas.Bool.{and_from, and_parts, both_ways, cases_eq, eqb-true, eq-eqb, false≢true, lt-ltb, ltb-true, or_cases, or_left, or_right}
use Rattle.lw_proof.specs.System.{Set}
use Rattle.lw_sat.specs.Sets.{adding, among}
use Rattle.lw_sat.proofs.SaturationCourse.{seed_more}

-- what the set has below n
abbrev pub first : ℕ → Set ℕ → Set ℕ
first n X i = ltb i n && X i

-- two tests that answer true together answer alike
pub alike : (a b : Bool) → (a ≡ true → b ≡ true) → (b ≡ true → a ≡ true) → a ≡ b
alike true b f g = sym (f refl)
alike false true f g = g refl
alike false false f g = refl

one_more : (n : ℕ) (X : Set ℕ) → X n ≡ true → (i : ℕ) → adding (n ∷ []) (first n X) i ≡ first (n + 1) X i
one_more n X there i = alike (adding (n ∷ []) (first n X) i) (first (n + 1) X i)
    (λ e. elim (or_cases (among (n ∷ []) i) (first n X i) e) [
      | inl new ↦ elim (or_cases (eqb n i) false new) [
        | inl same ↦ (let q : n ≡ i = eqb-true n i same in and_from (ltb i (n + 1)) (X i) (lt-ltb i (n + 1) (omega (arith, q))) (subst (λ k. X k ≡ true) q there))
        | inr never ↦ absurd (false≢true never)
      ]
      | inr old ↦ (let both = and_parts (ltb i n) (X i) old in and_from (ltb i (n + 1)) (X i) (lt-ltb i (n + 1) (omega (arith, ltb-true i n both.0))) both.1)
    ])
    (λ e. let both = and_parts (ltb i (n + 1)) (X i) e in elim (cases_eq n i) [
      | inl same ↦ or_left (among (n ∷ []) i) (first n X i) (or_left (eqb n i) false (eq-eqb n i same))
      | inr apart ↦ or_right (among (n ∷ []) i) (first n X i) (and_from (ltb i n) (X i) (lt-ltb i n (omega (arith, ltb-true i (n + 1) both.0, apart))) both.1)
    ])

none_more : (n : ℕ) (X : Set ℕ) → X n ≡ false → (i : ℕ) → first n X i ≡ first (n + 1) X i
none_more n X out i = alike (first n X i) (first (n + 1) X i)
    (λ e. let both = and_parts (ltb i n) (X i) e in and_from (ltb i (n + 1)) (X i) (lt-ltb i (n + 1) (omega (arith, ltb-true i n both.0))) both.1)
    (λ e. let both = and_parts (ltb i (n + 1)) (X i) e in elim (cases_eq i n) [
      | inl same ↦ absurd (both_ways (X n) out (subst (λ k. X k ≡ true) same both.1))
      | inr apart ↦ and_from (ltb i n) (X i) (lt-ltb i n (omega (arith, ltb-true i (n + 1) both.0, apart))) both.1
    ])

-- the next number is one of the set's
pub list_more : (xs : List ℕ) (n : ℕ) (X : Set ℕ) → among xs ≡ first n X → X n ≡ true → among (xs ++ n ∷ []) ≡ first (n + 1) X
list_more xs n X e there = sym (seed_more xs n) ∙ ap (adding (n ∷ [])) e ∙ (λ j i. one_more n X there i j)

-- the next number isn't one of the set's
pub list_skip : (xs : List ℕ) (n : ℕ) (X : Set ℕ) → among xs ≡ first n X → X n ≡ false → among xs ≡ first (n + 1) X
list_skip xs n X e out = e ∙ (λ j i. none_more n X out i j)

-- at first nothing is listed
pub list_none : (X : Set ℕ) → among [] ≡ first 0 X
list_none X = λ j i. alike false (first 0 X i) (λ e. absurd (false≢true e)) (λ e. absurd (let l = ltb-true i 0 (and_parts (ltb i 0) (X i) e).0 in omega (arith, l))) j

-- all of the set is below n
pub list_all : (xs : List ℕ) (n : ℕ) (X : Set ℕ) → among xs ≡ first n X → ((i : ℕ) → X i ≡ true → i < n) → among xs ≡ X
list_all xs n X e below = e ∙ (λ j i. alike (first n X i) (X i) (λ h. (and_parts (ltb i n) (X i) h).1) (λ h. and_from (ltb i n) (X i) (lt-ltb i n (below i h)) h) j)
