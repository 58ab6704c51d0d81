-- Truth of letterless formulas at the worlds of a model of GL goes by their heights.
use Rattle.std.proofs.Common.{◌≡◌, ℕ, ◌<◌, true, ◌⊎◌, inl, inr, ⊎_elim, refl, sym, subst, arith}
use Rattle.std.specs.Bool.{Decides}
use Rattle.std.proofs.lemmas.Bool.{false≢true, cases_eq}
use Rattle.std.proofs.lemmas.Bool.Decides.{Decides-and, Decides-or, Decides-not, Decides-like}
use Rattle.lw_formula.specs.Class.{IsTransitive, IsIrreflexive}
use Rattle.lw_formula.specs.FiniteModel.{FiniteModel, Sees}
use Rattle.lw_formula.specs.Formula.{Formula, letter, falsum, verum, neg, conj, disj, impl, equi, nec, poss}
use Rattle.lw_formula.specs.Truth.{IsTrueAt}
use Rattle.lw_formula.proofs.ListTests.{Decides-implies, Decides-iff}
use Rattle.lw_fix.proofs.WorldInduction.{climb}
use Rattle.lw_trace.specs.Heights.{AreHeights}
use Rattle.lw_trace.specs.LetterlessTruth.{IsLetterless, holds_at}
use Rattle.lw_trace.proofs.WorldHeights.{sees_or_none}
use Rattle.lw_trace.proofs.BelowHeights.{all_below, some_below}

module _ (m : FiniteModel) (up : IsTransitive m) (apart : IsIrreflexive m) (heights : ℕ → ℕ) (exact : AreHeights m heights) where
  -- a world sees worlds of each smaller height
  sees_each : (w k : ℕ) → k < heights w → (v : ℕ) × Sees m w v × (heights v ≡ k)
  sees_each = climb m up apart (λ w. (k : ℕ) → k < heights w → (v : ℕ) × Sees m w v × (heights v ≡ k)) (λ w above k l. from_seen w above k l (sees_or_none m w))
    where
      from_seen : (w : ℕ) → ((u : ℕ) → Sees m w u → (k : ℕ) → k < heights u → (v : ℕ) × Sees m u v × (heights v ≡ k)) →
          (k : ℕ) → k < heights w → ((v : ℕ) × Sees m w v) ⊎ ((v : ℕ) → ¬ Sees m w v) → (v : ℕ) × Sees m w v × (heights v ≡ k)
      from_seen w above k l (inl some) =
          let next = (exact.higher w some.0 some.1).next in
          ⊎_elim
          (λ e. (next.0, next.1, sym e))
          (λ other.
          let further = above next.0 next.1 k (omega (arith, l, next.2)) in
          (further.0, up w next.0 further.0 next.1 further.1, further.2))
          (cases_eq k (heights next.0))
      from_seen w above k l (inr none) = absurd (omega (arith, l, exact.lowest w none))

  pub holds_at-IsTrueAt : (a : Formula) → IsLetterless a → (w : ℕ) → Decides (holds_at a (heights w)) (IsTrueAt m w a)
  holds_at-IsTrueAt (letter p) free w = absurd (free p refl)
  holds_at-IsTrueAt falsum free w = (λ e. false≢true e, λ h. absurd h)
  holds_at-IsTrueAt verum free w = (λ e. tt, λ h. refl)
  holds_at-IsTrueAt (neg a) free w = Decides-not (holds_at a (heights w)) (holds_at-IsTrueAt a free w)
  holds_at-IsTrueAt (conj a b) free w =
      Decides-and (holds_at a (heights w)) (holds_at b (heights w)) (holds_at-IsTrueAt a (λ p o. free p (inl o)) w) (holds_at-IsTrueAt b (λ p o. free p (inr o)) w)
  holds_at-IsTrueAt (disj a b) free w =
      Decides-or (holds_at a (heights w)) (holds_at b (heights w)) (holds_at-IsTrueAt a (λ p o. free p (inl o)) w) (holds_at-IsTrueAt b (λ p o. free p (inr o)) w)
  holds_at-IsTrueAt (impl a b) free w =
      Decides-implies (holds_at a (heights w)) (holds_at b (heights w)) (holds_at-IsTrueAt a (λ p o. free p (inl o)) w) (holds_at-IsTrueAt b (λ p o. free p (inr o)) w)
  holds_at-IsTrueAt (equi a b) free w =
      Decides-iff (holds_at a (heights w)) (holds_at b (heights w)) (holds_at-IsTrueAt a (λ p o. free p (inl o)) w) (holds_at-IsTrueAt b (λ p o. free p (inr o)) w)
  holds_at-IsTrueAt (nec a) free w =
      Decides-like (holds_at (nec a) (heights w))
      (λ all v s. (holds_at-IsTrueAt a free v).0 (all (heights v) ((exact.higher w v s).smaller v s)))
      (λ all k l.
      let some = sees_each w k l in
      subst (λ i. holds_at a i ≡ true) some.2 ((holds_at-IsTrueAt a free some.0).1 (all some.0 some.1)))
      (all_below (holds_at a) (heights w))
  holds_at-IsTrueAt (poss a) free w =
      Decides-like (holds_at (poss a) (heights w))
      (λ some.
      let v = sees_each w some.0 some.1 in
      (v.0, v.1, (holds_at-IsTrueAt a free v.0).0 (subst (λ i. holds_at a i ≡ true) (sym v.2) some.2)))
      (λ some. (heights some.0, (exact.higher w some.0 some.1).smaller some.0 some.1, (holds_at-IsTrueAt a free some.0).1 some.2))
      (some_below (holds_at a) (heights w))
