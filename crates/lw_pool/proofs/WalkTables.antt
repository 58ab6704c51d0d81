-- Tables that a walk over the ids fills, an entry for each id.
use Rattle.std.proofs.Common.{ℕ, ◌<◌, inl, inr, List, [], ◌∷◌, ◌++◌, length, get_or, sym, subst, arith, length-append}
use Rattle.std.proofs.lemmas.Bool.{cases_order}
use Rattle.std.proofs.lemmas.List.{get_or_append_left, get_or_push}

-- what holds of each entry, and of the new one at its place, holds of each entry and the new one
pub each_push : {X : Type 0} (P : ℕ → X → Type 0) (xs : List X) (x : X) → ((k : ℕ) (d : X) → k < length xs → P k (get_or xs k d)) → P (length xs) x →
    (k : ℕ) (d : X) → k < length (xs ++ x ∷ []) → P k (get_or (xs ++ x ∷ []) k d)
each_push {X} P xs x h p k d l =
    elim (cases_order k (length xs)) [
      | inl e ↦ subst (P k) (sym (get_or_push xs x d k (sym e))) (subst (λ (j : ℕ). P j x) (sym e) p)
      | inr q ↦ elim q [
        | inl m ↦ subst (P k) (sym (get_or_append_left xs (x ∷ []) d k m)) (h k d m)
        | inr m ↦ absurd (omega (arith, length-append xs (x ∷ [])))
      ]
    ]
