-- The numbers of items: their formulas, their signs, the same formula under the other sign, and a search among numbers.
use Rattle.std.proofs.Common.{◌≡◌, ℕ, ◌+◌, ◌-◌, ◌*◌, ◌/◌, ◌%◌, ◌<◌, zero, suc, Bool, true, false, cond, eqb, inl, inr, refl, sym, ap, subst, ◌∙◌, arith, eqb-true, eq-eqb}
use Rattle.std.proofs.lemmas.Bool.{cases_Bool, cases_lt, or_cases, or_left, or_right, false≢true, eqb-false}
use Rattle.lw_formula.specs.declared.parts.Parts.{Parts}
use Rattle.lw_formula.specs.declared.parts.Parts.TheVariants.{Nu}
use Rattle.lw_formula.specs.declared.sign.Sign.TheVariants.{T, F}
use Rattle.lw_formula.specs.Signs.{opposite}
use Rattle.lw_closure.specs.Table.{sign_of, flip_item}
use Rattle.lw_closure.specs.Items.{any_below, is_nu_to}

pub sign_even : (i : ℕ) → i % 2 ≡ 0 → sign_of i ≡ T
sign_even i e = ap (λ b. cond b T F) (eq-eqb (i % 2) 0 e)

pub sign_odd : (i : ℕ) → i % 2 ≡ 1 → sign_of i ≡ F
sign_odd i e = ap (λ k. cond (eqb k 0) T F) e

pub flip_even : (i : ℕ) → i % 2 ≡ 0 → flip_item i ≡ i + 1
flip_even i e = ap (λ b. cond b (i + 1) (i - 1)) (eq-eqb (i % 2) 0 e)

pub flip_odd : (i : ℕ) → i % 2 ≡ 1 → flip_item i ≡ i - 1
flip_odd i e = ap (λ k. cond (eqb k 0) (i + 1) (i - 1)) e

-- what holds of even and of odd items holds of each
pub by_parity : (P : ℕ → Type 0) (i : ℕ) → (i % 2 ≡ 0 → P i) → (i % 2 ≡ 1 → P i) → P i
by_parity P i even odd = elim (cases_Bool (eqb (i % 2) 0)) [ inl e ↦ even (eqb-true (i % 2) 0 e) | inr e ↦ odd (let n = eqb-false (i % 2) 0 e in omega (arith, n)) ]

pub sign_flip : (i : ℕ) → sign_of (flip_item i) ≡ opposite (sign_of i)
sign_flip i =
    by_parity (λ k. sign_of (flip_item k) ≡ opposite (sign_of k)) i
    (λ e. ap sign_of (flip_even i e) ∙ sign_odd (i + 1) (omega arith) ∙ sym (ap opposite (sign_even i e)))
    (λ e. ap sign_of (flip_odd i e) ∙ sign_even (i - 1) (omega arith) ∙ sym (ap opposite (sign_odd i e)))

pub half_flip : (i : ℕ) → flip_item i / 2 ≡ i / 2
half_flip i =
    by_parity (λ k. flip_item k / 2 ≡ k / 2) i
    (λ e. ap (λ k. k / 2) (flip_even i e) ∙ (omega arith))
    (λ e. ap (λ k. k / 2) (flip_odd i e) ∙ (omega arith))

pub flip_below : (i n : ℕ) → i < 2 * n → flip_item i < 2 * n
flip_below i n l =
    by_parity (λ k. flip_item k < 2 * n) i
    (λ e. subst (λ k. k < 2 * n) (sym (flip_even i e)) (omega arith))
    (λ e. subst (λ k. k < 2 * n) (sym (flip_odd i e)) (omega arith))

-- the rest by 2 tells the sign
pub same_rest : (a b : ℕ) → a < 2 → b < 2 → cond (eqb a 0) T F ≡ cond (eqb b 0) T F → a ≡ b
same_rest a b l k e = go (eqb a 0) (eqb b 0) refl refl e
  where
    go : (x y : Bool) → eqb a 0 ≡ x → eqb b 0 ≡ y → cond x T F ≡ cond y T F → a ≡ b
    go true true p q e = eqb-true a 0 p ∙ sym (eqb-true b 0 q)
    go true false p q e = cc
    go false true p q e = cc
    go false false p q e =
        let one = eqb-false a 0 p in
        let other = eqb-false b 0 q in
        omega (arith, one, other)

-- where a number below n passes the test, one is found, and the other way round
pub any_below_cases : (test : ℕ → Bool) (n : ℕ) → any_below test n ≡ true → (i : ℕ) × (i < n) × (test i ≡ true)
any_below_cases test zero e = absurd (false≢true e)
any_below_cases test (suc n) e =
    elim (or_cases (test n) (any_below test n) e) [
      | inl here ↦ (n, omega arith, here)
      | inr below ↦ (let r = any_below_cases test n below in (r.0, omega (arith, r.1), r.2))
    ]

pub any_below-found : (test : ℕ → Bool) (n i : ℕ) → i < n → test i ≡ true → any_below test n ≡ true
any_below-found test zero i l e = absurd (omega arith)
any_below-found test (suc n) i l e = elim (cases_lt i n) [
  | inl lower ↦ or_right (test n) (any_below test n) (any_below-found test n i lower e)
  | inr last ↦ (let same : i ≡ n = omega arith in or_left (test n) (any_below test n) (subst (λ k. test k ≡ true) same e))
]

-- the components with the number i of a ν
pub is_nu_to-true : (i : ℕ) (p : Parts ℕ) → is_nu_to i p ≡ true → p ≡ Nu i
is_nu_to-true i (Nu c) e = ap Nu (eqb-true c i e)
is_nu_to-true i _ e = absurd (false≢true e)

pub is_nu_to-same : (i : ℕ) → is_nu_to i (Nu i) ≡ true
is_nu_to-same i = eq-eqb i i refl
