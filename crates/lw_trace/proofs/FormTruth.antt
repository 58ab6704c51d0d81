-- The truth values of the formulas of which normal forms are made.
use Rattle.std.proofs.Common.{◌≡◌, ℕ, zero, suc, ◌<◌, not, List, [], ◌∷◌, inl, inr, ⊎_elim, refl, sym, subst, arith}
use Rattle.std.specs.Bool.{Decides}
use Rattle.std.specs.List.{Contains}
use Rattle.std.proofs.lemmas.Bool.{false≢true}
use Rattle.std.proofs.lemmas.Bool.Decides.{Decides-and, Decides-or, Decides-not, Decides-like}
use Rattle.lw_formula.proofs.ListMembers.{Contains-nil, Contains-head, Contains-tail, Contains-cons_cases}
use Rattle.lw_trace.specs.LetterlessTruth.{IsLetterless, holds_at}
use Rattle.lw_trace.specs.LetterlessForm.{is_below, is_height, is_among, is_outside}
use Rattle.lw_trace.proofs.BelowHeights.{all_below}

pub is_below-Decides : (k n : ℕ) → Decides (holds_at (is_below k) n) (n < k)
is_below-Decides zero n = (λ e. absurd (false≢true e), λ l. absurd (omega (arith, l)))
is_below-Decides (suc k) n =
    Decides-like (holds_at (is_below (suc k)) n)
    (λ all. at_most n (λ i l. (is_below-Decides k i).0 (all i l)))
    (λ l i b. (is_below-Decides k i).1 (omega (arith, l, b)))
    (all_below (holds_at (is_below k)) n)
  where
    at_most : (n : ℕ) → ((i : ℕ) → i < n → i < k) → n < suc k
    at_most zero all = omega arith
    at_most (suc i) all = omega (arith, all i (omega arith))

pub is_height-Decides : (k n : ℕ) → Decides (holds_at (is_height k) n) (n ≡ k)
is_height-Decides zero n = Decides-like (holds_at (is_height 0) n) (λ l. omega (arith, l)) (λ e. omega (arith, e)) (is_below-Decides 1 n)
is_height-Decides (suc k) n =
    Decides-like (holds_at (is_height (suc k)) n)
    (λ both. omega (arith, both.0, both.1))
    (λ e. (omega (arith, e), λ l. omega (arith, e, l)))
    (Decides-and (holds_at (is_below (suc (suc k))) n) (not (holds_at (is_below (suc k)) n)) (is_below-Decides (suc (suc k)) n)
    (Decides-not (holds_at (is_below (suc k)) n) (is_below-Decides (suc k) n)))

pub is_among-Decides : (ks : List ℕ) (n : ℕ) → Decides (holds_at (is_among ks) n) (Contains ks n)
is_among-Decides [] n = (λ e. absurd (false≢true e), λ h. absurd (Contains-nil n h))
is_among-Decides (k ∷ []) n =
    Decides-like (holds_at (is_height k) n)
    (λ e. subst (Contains (k ∷ [])) (sym e) (Contains-head k []))
    (λ h. ⊎_elim (λ e. sym e) (λ none. absurd (Contains-nil n none)) (Contains-cons_cases k [] n h))
    (is_height-Decides k n)
is_among-Decides (k ∷ j ∷ ks) n =
    Decides-like (holds_at (is_among (k ∷ j ∷ ks)) n)
    (λ either. ⊎_elim (λ e. subst (Contains (k ∷ j ∷ ks)) (sym e) (Contains-head k (j ∷ ks))) (λ rest. Contains-tail k (j ∷ ks) n rest) either)
    (λ h. ⊎_elim (λ e. inl (sym e)) (λ rest. inr rest) (Contains-cons_cases k (j ∷ ks) n h))
    (Decides-or (holds_at (is_height k) n) (holds_at (is_among (j ∷ ks)) n) (is_height-Decides k n) (is_among-Decides (j ∷ ks) n))

pub holds_at-is_outside : (ks : List ℕ) (n : ℕ) → holds_at (is_outside ks) n ≡ not (holds_at (is_among ks) n)
holds_at-is_outside [] n = refl
holds_at-is_outside (k ∷ ks) n = refl

is_below-IsLetterless : (n : ℕ) → IsLetterless (is_below n)
is_below-IsLetterless zero p o = o
is_below-IsLetterless (suc n) p o = is_below-IsLetterless n p o

is_height-IsLetterless : (n : ℕ) → IsLetterless (is_height n)
is_height-IsLetterless zero p o = o
is_height-IsLetterless (suc n) p o = ⊎_elim (λ l. is_below-IsLetterless (suc (suc n)) p l) (λ r. is_below-IsLetterless (suc n) p r) o

pub is_among-IsLetterless : (ks : List ℕ) → IsLetterless (is_among ks)
is_among-IsLetterless [] p o = o
is_among-IsLetterless (k ∷ []) p o = is_height-IsLetterless k p o
is_among-IsLetterless (k ∷ j ∷ ks) p o = ⊎_elim (λ l. is_height-IsLetterless k p l) (λ r. is_among-IsLetterless (j ∷ ks) p r) o

pub is_outside-IsLetterless : (ks : List ℕ) → IsLetterless (is_outside ks)
is_outside-IsLetterless [] p o = o
is_outside-IsLetterless (k ∷ ks) p o = is_among-IsLetterless (k ∷ ks) p o
