-- How the weight of a set falls as the set grows.
use Rattle.std.proofs.Common.{◌≡◌, ℕ, zero, suc, ◌+◌, ◌*◌, ◌<◌, ◌≤◌, true, false, List, [], ◌∷◌, ◌++◌, sym, inl, inr, arith}
use Rattle.std.proofs.lemmas.Bool.{cases_Bool, cases_eq, cond-true, cond-false}
use Rattle.lw_proof.specs.System.{Set, IsWithin}
use Rattle.lw_sat.specs.Sets.{weight, weights}

weight_in : (X : Set ℕ) (n : ℕ) → X n ≡ true → weight X (suc n) ≡ weight X n
weight_in X n e = cond-true (X n) (weight X n) (3 * weight X n) e

weight_out : (X : Set ℕ) (n : ℕ) → X n ≡ false → weight X (suc n) ≡ 3 * weight X n
weight_out X n e = cond-false (X n) (weight X n) (3 * weight X n) e

pub weight_some : (X : Set ℕ) (n : ℕ) → 1 ≤ weight X n
weight_some X zero = omega arith
weight_some X (suc n) =
    elim (cases_Bool (X n)) [
      | inl e ↦ (let w = weight_in X n e in omega (arith, weight_some X n))
      | inr e ↦ (let w = weight_out X n e in omega (arith, weight_some X n))
    ]

-- a larger set weighs no more
pub weight_more : (X Y : Set ℕ) → IsWithin X Y → (n : ℕ) → weight Y n ≤ weight X n
weight_more X Y h zero = omega arith
weight_more X Y h (suc n) =
    elim (cases_Bool (X n)) [
      | inl x ↦ (let v = weight_in X n x in let w = weight_in Y n (h n x) in omega (arith, weight_more X Y h n))
      | inr x ↦
          elim (cases_Bool (Y n)) [
            | inl y ↦ (let v = weight_out X n x in let w = weight_in Y n y in omega (arith, weight_more X Y h n))
            | inr y ↦ (let v = weight_out X n x in let w = weight_out Y n y in omega (arith, weight_more X Y h n))
          ]
    ]

-- and with one more member a third at most
pub weight_new : (X Y : Set ℕ) → IsWithin X Y → (s : ℕ) → X s ≡ false → Y s ≡ true → (n : ℕ) → s < n → 3 * weight Y n ≤ weight X n
weight_new X Y h s out in_ zero l = absurd (omega arith)
weight_new X Y h s out in_ (suc n) l =
    elim (cases_eq s n) [
      | inl e ↦ (let v = weight_out X n (subst_out e) in let w = weight_in Y n (subst_in e) in omega (arith, weight_more X Y h n))
      | inr apart ↦
          elim (cases_Bool (X n)) [
            | inl x ↦ (let v = weight_in X n x in let w = weight_in Y n (h n x) in omega (arith, weight_new X Y h s out in_ n (omega arith)))
            | inr x ↦
                elim (cases_Bool (Y n)) [
                  | inl y ↦ (let v = weight_out X n x in let w = weight_in Y n y in omega (arith, weight_new X Y h s out in_ n (omega arith)))
                  | inr y ↦ (let v = weight_out X n x in let w = weight_out Y n y in omega (arith, weight_new X Y h s out in_ n (omega arith)))
                ]
          ]
    ] where
      subst_out : s ≡ n → X n ≡ false
      subst_out e = rw (sym e) out

      subst_in : s ≡ n → Y n ≡ true
      subst_in e = rw (sym e) in_

pub weights_on : (n : ℕ) (Xs : List (Set ℕ)) (X : Set ℕ) → weights n (Xs ++ X ∷ []) ≡ weights n Xs + weight X n
weights_on n [] X = omega arith
weights_on n (Y ∷ Xs) X = omega (arith, weights_on n Xs X)
