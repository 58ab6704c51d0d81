-- What a signed formula says of its components at a world, and what sets say.
use Rattle.std.proofs.Common.{◌≡◌, ℕ, true, List, [], ◌∷◌, ◌⊎◌, inl, inr, refl, subst}
use Rattle.std.specs.Bool.{IsTrue, Decides, ⊤}
use Rattle.std.specs.List.{list_any}
use Rattle.std.proofs.lemmas.Bool.{false≢true, or_cases}
use Rattle.lw_formula.specs.declared.sign.Sign.{Sign}
use Rattle.lw_formula.specs.declared.sign.Sign.TheVariants.{T, F}
use Rattle.lw_formula.specs.declared.parts.Parts.{Parts}
use Rattle.lw_formula.specs.declared.parts.Parts.TheVariants.{Nothing, One, Two, Nu, Pi}
use Rattle.lw_formula.specs.Formula.{Formula, falsum, verum, neg, conj, disj, impl, equi, nec, poss, same_formula}
use Rattle.lw_formula.specs.FiniteModel.{FiniteModel, Sees}
use Rattle.lw_formula.specs.Truth.{IsTrueAt, true_at}
use Rattle.lw_formula.specs.Signed.{Signed, SignedSet, flip, HoldsSigned, Satisfies}
use Rattle.lw_formula.specs.Components.{parts_of, is_absurd}
use Rattle.lw_formula.proofs.ListTests.{Decides-either, Decides-pair}
use Rattle.lw_formula.proofs.SameFormulas.{same_formula-Decides}
use Rattle.lw_formula.proofs.TruthTest.{true_at-IsTrueAt}
use Rattle.lw_proof.specs.System.{same_sign, same_signed, trees}
use Rattle.lw_proof.specs.Derivation.{side, plus, only}

pub same_sign-Decides : (s t : Sign) → Decides (same_sign s t) (s ≡ t)
same_sign-Decides T T = (λ e. refl, λ e. refl)
same_sign-Decides F F = (λ e. refl, λ e. refl)
same_sign-Decides T F = (λ e. absurd (false≢true e), λ e. subst (λ s. same_sign T s ≡ true) e refl)
same_sign-Decides F T = (λ e. absurd (false≢true e), λ e. subst (λ s. same_sign F s ≡ true) e refl)

pub same_signed-Decides : (s t : Signed) → Decides (same_signed s t) (s ≡ t)
same_signed-Decides s t = Decides-pair s t (same_sign s.0 t.0) (same_formula s.1 t.1) (same_sign-Decides s.0 t.0) (same_formula-Decides s.1 t.1)

module _ (m : FiniteModel) where
  -- every formula is true or not
  pub decided : (w : ℕ) (a : Formula) → IsTrueAt m w a ⊎ (¬ IsTrueAt m w a)
  decided w a = Decides-either (true_at m w a) (true_at-IsTrueAt m w a)

  -- a formula holds at a world under one of the signs
  pub holds_either : (w : ℕ) (s : Signed) → HoldsSigned m w s ⊎ HoldsSigned m w (flip s)
  holds_either w (T, a) = decided w a
  holds_either w (F, a) = elim (decided w a) [ inl x ↦ inr x | inr n ↦ inl n ]

  -- and not under both
  pub never_both : (w : ℕ) (s : Signed) → HoldsSigned m w s → HoldsSigned m w (flip s) → ⊥
  never_both w (T, a) x n = n x
  never_both w (F, a) n x = n x

  pub holds_decided : (w : ℕ) (s : Signed) → HoldsSigned m w s ⊎ (¬ HoldsSigned m w s)
  holds_decided w s = elim (holds_either w s) [ inl h ↦ inl h | inr h ↦ inr (λ g. never_both w s g h) ]

  pub absurd_fails : (w : ℕ) (s : Signed) → IsTrue (is_absurd s) → HoldsSigned m w s → ⊥
  absurd_fails w (T, falsum) e h = h
  absurd_fails w (F, verum) e h = h tt
  absurd_fails w _ e h = false≢true e

  -- all of these hold
  abbrev pub HoldsAll : ℕ → List Signed → Type 0
  HoldsAll w [] = ⊤
  HoldsAll w (s ∷ ss) = HoldsSigned m w s × HoldsAll w ss

  -- what the components say
  abbrev pub Means : ℕ → Parts Signed → Type 0
  Means w Nothing = ⊤
  Means w (One c d) = HoldsAll w (side c d)
  Means w (Two a b) = HoldsAll w (side a.0 a.1) ⊎ HoldsAll w (side b.0 b.1)
  Means w (Nu c) = (v : ℕ) → Sees m w v → HoldsSigned m v c
  Means w (Pi c) = (v : ℕ) × Sees m w v × HoldsSigned m v c

  -- a formula that holds says what its components say: a row for each connective
  pub means : (w : ℕ) (s : Signed) → HoldsSigned m w s → Means w (parts_of s)
  means w (T, conj a b) h = (h.0, (h.1, tt))
  means w (F, disj a b) h = (λ x. h (inl x), (λ y. h (inr y), tt))
  means w (F, impl a b) h = elim (decided w a) [ inl x ↦ (x, (λ y. h (λ _. y), tt)) | inr n ↦ absurd (h (λ x. absurd (n x))) ]
  means w (T, neg a) h = (h, tt)
  means w (F, neg a) h = elim (decided w a) [ inl x ↦ (x, tt) | inr n ↦ absurd (h n) ]
  means w (F, conj a b) h = elim (decided w a) [ inl x ↦ inr (λ y. h (x, y), tt) | inr n ↦ inl (n, tt) ]
  means w (T, disj a b) h = elim h [ inl x ↦ inl (x, tt) | inr y ↦ inr (y, tt) ]
  means w (T, impl a b) h = elim (decided w a) [ inl x ↦ inr (h x, tt) | inr n ↦ inl (n, tt) ]
  means w (T, equi a b) h = elim (decided w a) [ inl x ↦ inl (x, (h.0 x, tt)) | inr n ↦ inr (n, (λ y. n (h.1 y), tt)) ]
  means w (F, equi a b) h =
      elim (decided w a) [
        | inl x ↦ inl (x, (λ y. h (λ _. y, λ _. x), tt))
        | inr n ↦ elim (decided w b) [ inl y ↦ inr (n, (y, tt)) | inr k ↦ absurd (h (λ x. absurd (n x), λ y. absurd (k y))) ]
      ]
  means w (T, nec a) h = h
  means w (F, poss a) h = λ v sees x. h (v, sees, x)
  means w (F, nec a) h =
      elim (decided w (poss (neg a))) [
        | inl some ↦ some
        | inr none ↦ absurd (h (λ v sees. elim (decided v a) [ inl x ↦ x | inr n ↦ absurd (none (v, sees, n)) ]))
      ]
  means w (T, poss a) h = h
  means w _ h = tt

  -- there are components
  abbrev pub HasParts : Parts Signed → Type 0
  HasParts Nothing = ⊥
  HasParts _ = ⊤

  -- and a formula holds where its components say so
  pub means_back : (w : ℕ) (s : Signed) → HasParts (parts_of s) → Means w (parts_of s) → HoldsSigned m w s
  means_back w (T, conj a b) p h = (h.0, h.1.0)
  means_back w (F, disj a b) p h = λ either. elim either [ inl x ↦ h.0 x | inr y ↦ h.1.0 y ]
  means_back w (F, impl a b) p h = λ f. h.1.0 (f h.0)
  means_back w (T, neg a) p h = h.0
  means_back w (F, neg a) p h = λ n. n h.0
  means_back w (F, conj a b) p h = λ both. elim h [ inl n ↦ n.0 both.0 | inr n ↦ n.0 both.1 ]
  means_back w (T, disj a b) p h = elim h [ inl x ↦ inl x.0 | inr y ↦ inr y.0 ]
  means_back w (T, impl a b) p h = λ x. elim h [ inl n ↦ absurd (n.0 x) | inr y ↦ y.0 ]
  means_back w (T, equi a b) p h =
      elim h [ inl x ↦ (λ _. x.1.0, λ _. x.0) | inr n ↦ (λ x. absurd (n.0 x), λ y. absurd (n.1.0 y)) ]
  means_back w (F, equi a b) p h = λ iff. elim h [ inl x ↦ x.1.0 (iff.0 x.0) | inr y ↦ y.0 (iff.1 y.1.0) ]
  means_back w (T, nec a) p h = h
  means_back w (F, poss a) p h = λ some. h some.0 some.1 some.2
  means_back w (F, nec a) p h = λ all. h.2 (all h.0 h.1)
  means_back w (T, poss a) p h = h
  means_back w _ p h = absurd p

  -- one of those that hold
  holds_among : (w : ℕ) (cs : List Signed) (s : Signed) → HoldsAll w cs → list_any (λ c. same_signed c s) cs ≡ true → HoldsSigned m w s
  holds_among w [] s h e = absurd (false≢true e)
  holds_among w (c ∷ cs) s h e =
      elim (or_cases (same_signed c s) (list_any (λ c. same_signed c s) cs) e) [
        | inl same ↦ subst (HoldsSigned m w) ((same_signed-Decides c s).0 same) h.0
        | inr rest ↦ holds_among w cs s h.1 rest
      ]

  -- a set that holds still holds with more that holds
  pub satisfies_plus : (w : ℕ) (cs : List Signed) (X : SignedSet) → HoldsAll w cs → Satisfies m w X → Satisfies m w (plus trees cs X)
  satisfies_plus w cs X h sat s e =
      elim (or_cases (list_any (λ c. same_signed c s) cs) (X s) e) [ inl one ↦ holds_among w cs s h one | inr old ↦ sat s old ]

  pub satisfies_only : (w : ℕ) (s : Signed) → HoldsSigned m w s → Satisfies m w (only s)
  satisfies_only w s h t e = subst (HoldsSigned m w) ((same_signed-Decides s t).0 e) h
