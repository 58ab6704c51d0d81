-- The forms that a list of ids has under one sign: how a loop finds them, and what sorting leaves of them.
use Rattle.std.proofs.Common.{◌≡◌, ℕ, ◌+◌, ◌<◌, Bool, true, false, List, [], ◌∷◌, ◌++◌, ◌↔◌, length, take, get_or, inl, inr, eqb, refl, ap, subst, sym, ◌∙◌, arith}
use Rattle.std.specs.Bool.{Decides}
use Rattle.std.specs.List.{Contains}
use Rattle.std.specs.List.Sorted.{IsPermutation, IsSorted}
use Rattle.std.specs.Ordering.{nat_cmp}
use Rattle.std.proofs.lemmas.Bool.{false≢true}
use Rattle.std.proofs.lemmas.Bool.Decides.{Decides-eqb}
use Rattle.std.proofs.lemmas.List.{get_or-take, get_or_default, length-take, take_more}
use Rattle.std.proofs.lemmas.List.Elements.{Contains-append_left, Contains-push, Contains-push_cases}
use Rattle.std.proofs.lemmas.List.Sorted.{Contains-permutation, IsNonDecreasingBy-from_sort, IsPermutation-sym}
use Rattle.std.proofs.lemmas.Map.Keys.{IsDistinct-IsPermutation, IsStrictlyIncreasing-from_distinct}
use Rattle.std.proofs.lemmas.Map.Made.{IsDistinct-from_AllPairs}
use Rattle.lw_formula.specs.declared.sign.Sign.{Sign}
use Rattle.lw_formula.specs.declared.sign.Sign.TheVariants.{T, F}
use Rattle.lw_formula.specs.contracts.sign.SignPartialEq.TheImpl as sign_test
use Rattle.lw_formula.specs.FiniteModel.{AreDistinct}
use Rattle.lw_formula.proofs.ListMembers.{AreDistinct-push}
use Rattle.lw_pool.specs.declared.id.SignedId.{SignedId}
use Rattle.lw_sets.proofs.SetMembers.{Decides_alike}
use Rattle.lw_share.specs.Private.SetKeys.{AreFormsUnder}

-- the id of a form under a sign
abbrev pub id_under : Sign → ℕ → SignedId
id_under sign n = record { sign = sign; form = record { 0 = n } }

-- the test of signs decides whether they are equal
abbrev pub sign_eq : Sign → Sign → Bool
sign_eq = sign_test.ghosts.eq

sign_eq-Decides : (s t : Sign) → Decides (sign_eq s t) (s ≡ t)
sign_eq-Decides T T = (λ e. refl, λ e. refl)
sign_eq-Decides F F = (λ e. refl, λ e. refl)
sign_eq-Decides T F = (λ e. absurd (false≢true e), λ e. subst (λ s. sign_eq T s ≡ true) e refl)
sign_eq-Decides F T = (λ e. absurd (false≢true e), λ e. subst (λ s. sign_eq F s ≡ true) e refl)

-- these are the forms of the ids under the sign, each once, in some order
pub record AreForms (xs : List SignedId) (sign : Sign) (forms : List ℕ) : Type 0 where
  pub exact : (n : ℕ) → Contains forms n ↔ Contains xs (id_under sign n)
  pub distinct : AreDistinct forms

-- the next id
module _ (xs : List SignedId) (x : SignedId) (sign : Sign) (forms : List ℕ) (h : AreForms xs sign forms) where
  more_forms : x.sign ≡ sign → ¬ Contains xs x → AreForms (xs ++ x ∷ []) sign (forms ++ x.form.0 ∷ [])
  more_forms e new = record {
    exact = λ n. (to n, from n);
    distinct = AreDistinct-push forms x.form.0 h.distinct (λ c. new (subst (Contains xs) (sym (is _ refl)) ((h.exact x.form.0).0 c)));
  }
    where
      is : (n : ℕ) → x.form.0 ≡ n → x ≡ id_under sign n
      is n f = λ i. record { sign = e i; form = record { 0 = f i } }

      to : (n : ℕ) → Contains (forms ++ x.form.0 ∷ []) n → Contains (xs ++ x ∷ []) (id_under sign n)
      to n c = elim (Contains-push_cases forms x.form.0 n c) [
        | inl before ↦ Contains-append_left xs (x ∷ []) (id_under sign n) ((h.exact n).0 before)
        | inr last ↦ subst (Contains (xs ++ x ∷ [])) (is n last) (Contains-push xs x)
      ]

      from : (n : ℕ) → Contains (xs ++ x ∷ []) (id_under sign n) → Contains (forms ++ x.form.0 ∷ []) n
      from n c = elim (Contains-push_cases xs x (id_under sign n) c) [
        | inl before ↦ Contains-append_left forms (x.form.0 ∷ []) n ((h.exact n).1 before)
        | inr last ↦ subst (Contains (forms ++ x.form.0 ∷ [])) (ap (λ (y : SignedId). y.form.0) last) (Contains-push forms x.form.0)
      ]

  same_forms : ¬ (x.sign ≡ sign) → AreForms (xs ++ x ∷ []) sign forms
  same_forms other = record {
    exact = λ n. (
      λ c. Contains-append_left xs (x ∷ []) (id_under sign n) ((h.exact n).0 c),
      λ c. elim (Contains-push_cases xs x (id_under sign n) c) [
        | inl before ↦ (h.exact n).1 before
        | inr last ↦ absurd (other (ap (λ (y : SignedId). y.sign) last))
      ],
    );
    distinct = h.distinct;
  }

-- none of the ids before a place is that at the place
not_before : (xs : List SignedId) → AreDistinct xs → (i : ℕ) (d : SignedId) → i < length xs → ¬ Contains (take i xs) (get_or xs i d)
not_before xs apart i d below h =
    let x : SignedId = get_or xs i d in
    let k : h.0 < i = omega (arith, h.1, length-take i xs) in
    apart h.0 i x k below (sym (get_or-take i xs h.0 x k) ∙ h.2 ∙ get_or_default xs i d x below)

-- the next place of the list, where the id there has the sign or hasn't
module _ (xs : List SignedId) (apart : AreDistinct xs) (i : ℕ) (d : SignedId) (below : i < length xs) (sign : Sign) (forms : List ℕ)
    (h : AreForms (take i xs) sign forms) where
  abbrev x : SignedId
  x = get_or xs i d

  pub next_forms : sign_eq x.sign sign ≡ true → AreForms (take (i + 1) xs) sign (forms ++ x.form.0 ∷ [])
  next_forms e =
      subst (λ ys. AreForms ys sign (forms ++ x.form.0 ∷ [])) (sym (take_more xs i d below))
      (more_forms (take i xs) x sign forms h ((sign_eq-Decides x.sign sign).0 e) (not_before xs apart i d below))

  pub kept_forms : sign_eq x.sign sign ≡ false → AreForms (take (i + 1) xs) sign forms
  kept_forms e =
      subst (λ ys. AreForms ys sign forms) (sym (take_more xs i d below))
      (same_forms (take i xs) x sign forms h (λ same. false≢true (sym e ∙ (sign_eq-Decides x.sign sign).1 same)))

-- sorting leaves them ascending
pub sorted_forms : (xs : List SignedId) (sign : Sign) (forms moved : List ℕ) → AreForms xs sign forms → IsPermutation forms moved →
    IsSorted nat_cmp moved → AreFormsUnder xs sign moved
sorted_forms xs sign forms moved h p up = record {
  exact = λ n. (
    λ c. (h.exact n).0 (Contains-permutation moved forms n (IsPermutation-sym forms moved p) c),
    λ c. Contains-permutation forms moved n p ((h.exact n).1 c),
  );
  ascending = IsStrictlyIncreasing-from_distinct moved (IsNonDecreasingBy-from_sort (λ n. n) moved up)
      (IsDistinct-IsPermutation eqb flips forms moved p (IsDistinct-from_AllPairs Decides-eqb forms h.distinct));
}
  where
    flips : (m n : ℕ) → eqb m n ≡ eqb n m
    flips m n = Decides_alike (eqb m n) (eqb n m) (Decides-eqb m n) (Decides-eqb n m) (λ e. sym e) (λ e. sym e)
