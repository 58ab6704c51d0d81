-- The normal form is one, and is true where the formula is.
use Rattle.std.proofs.Common.{◌≡◌, ℕ, Bool, not, ◌&&◌, ◌||◌, ◌==◌, ◌↔◌, refl, sym, ◌∙◌}
use Rattle.std.specs.List.{list_all, list_any}
use Rattle.lw_formula.specs.declared.sign.Sign.{Sign}
use Rattle.lw_formula.specs.declared.sign.Sign.TheVariants.{T, F}
use Rattle.lw_formula.specs.Formula.{Formula, letter, falsum, verum, neg, conj, disj, impl, equi, nec, poss}
use Rattle.lw_formula.specs.FiniteModel.{FiniteModel}
use Rattle.lw_formula.specs.Truth.{IsTrueAt, true_at}
use Rattle.lw_formula.proofs.TruthTest.{true_at-IsTrueAt}
use Rattle.lw_normal.specs.NegationNormalForm.{Nnf, nnf_under, nnf}
use Rattle.lw_normal.proofs.TruthTables.{not_not, not_and, not_or, not_implies, same_cases, other_cases, not_all, not_any}

pub nnf_under-Nnf : (s : Sign) (a : Formula) → Nnf (nnf_under s a)
nnf_under-Nnf T (letter p) = tt
nnf_under-Nnf F (letter p) = tt
nnf_under-Nnf T falsum = tt
nnf_under-Nnf F falsum = tt
nnf_under-Nnf T verum = tt
nnf_under-Nnf F verum = tt
nnf_under-Nnf T (neg a) = nnf_under-Nnf F a
nnf_under-Nnf F (neg a) = nnf_under-Nnf T a
nnf_under-Nnf T (conj a b) = (nnf_under-Nnf T a, nnf_under-Nnf T b)
nnf_under-Nnf F (conj a b) = (nnf_under-Nnf F a, nnf_under-Nnf F b)
nnf_under-Nnf T (disj a b) = (nnf_under-Nnf T a, nnf_under-Nnf T b)
nnf_under-Nnf F (disj a b) = (nnf_under-Nnf F a, nnf_under-Nnf F b)
nnf_under-Nnf T (impl a b) = (nnf_under-Nnf F a, nnf_under-Nnf T b)
nnf_under-Nnf F (impl a b) = (nnf_under-Nnf T a, nnf_under-Nnf F b)
nnf_under-Nnf T (equi a b) = ((nnf_under-Nnf T a, nnf_under-Nnf T b), (nnf_under-Nnf F a, nnf_under-Nnf F b))
nnf_under-Nnf F (equi a b) = ((nnf_under-Nnf T a, nnf_under-Nnf F b), (nnf_under-Nnf F a, nnf_under-Nnf T b))
nnf_under-Nnf T (nec a) = nnf_under-Nnf T a
nnf_under-Nnf F (nec a) = nnf_under-Nnf F a
nnf_under-Nnf T (poss a) = nnf_under-Nnf T a
nnf_under-Nnf F (poss a) = nnf_under-Nnf F a

-- the truth value under T, and the other one under F
abbrev pub value_under : Sign → Bool → Bool
value_under T b = b
value_under F b = not b

pub true_at-nnf_under : (m : FiniteModel) (s : Sign) (a : Formula) (w : ℕ) → true_at m w (nnf_under s a) ≡ value_under s (true_at m w a)
true_at-nnf_under m T (letter p) w = refl
true_at-nnf_under m F (letter p) w = refl
true_at-nnf_under m T falsum w = refl
true_at-nnf_under m F falsum w = refl
true_at-nnf_under m T verum w = refl
true_at-nnf_under m F verum w = refl
true_at-nnf_under m T (neg a) w = true_at-nnf_under m F a w
true_at-nnf_under m F (neg a) w = true_at-nnf_under m T a w ∙ sym (not_not (true_at m w a))
true_at-nnf_under m T (conj a b) w = λ i. true_at-nnf_under m T a w i && true_at-nnf_under m T b w i
true_at-nnf_under m F (conj a b) w = (λ i. true_at-nnf_under m F a w i || true_at-nnf_under m F b w i) ∙ not_and (true_at m w a) (true_at m w b)
true_at-nnf_under m T (disj a b) w = λ i. true_at-nnf_under m T a w i || true_at-nnf_under m T b w i
true_at-nnf_under m F (disj a b) w = (λ i. true_at-nnf_under m F a w i && true_at-nnf_under m F b w i) ∙ not_or (true_at m w a) (true_at m w b)
true_at-nnf_under m T (impl a b) w = λ i. true_at-nnf_under m F a w i || true_at-nnf_under m T b w i
true_at-nnf_under m F (impl a b) w = (λ i. true_at-nnf_under m T a w i && true_at-nnf_under m F b w i) ∙ not_implies (true_at m w a) (true_at m w b)
true_at-nnf_under m T (equi a b) w =
    (λ i. (true_at-nnf_under m T a w i && true_at-nnf_under m T b w i) || (true_at-nnf_under m F a w i && true_at-nnf_under m F b w i)) ∙ same_cases (true_at m w a) (true_at m w b)
true_at-nnf_under m F (equi a b) w =
    (λ i. (true_at-nnf_under m T a w i && true_at-nnf_under m F b w i) || (true_at-nnf_under m F a w i && true_at-nnf_under m T b w i)) ∙ other_cases (true_at m w a) (true_at m w b)
true_at-nnf_under m T (nec a) w = λ i. list_all (λ p. not (p.0 == w) || true_at-nnf_under m T a p.1 i) m.pairs
true_at-nnf_under m F (nec a) w =
    not_all (λ p. not (p.0 == w) || true_at m p.1 a) (λ p. (p.0 == w) && true_at m p.1 (nnf_under F a))
    (λ p. (λ i. (p.0 == w) && true_at-nnf_under m F a p.1 i) ∙ not_implies (p.0 == w) (true_at m p.1 a)) m.pairs
true_at-nnf_under m T (poss a) w = λ i. list_any (λ p. (p.0 == w) && true_at-nnf_under m T a p.1 i) m.pairs
true_at-nnf_under m F (poss a) w =
    not_any (λ p. (p.0 == w) && true_at m p.1 a) (λ p. not (p.0 == w) || true_at m p.1 (nnf_under F a))
    (λ p. (λ i. not (p.0 == w) || true_at-nnf_under m F a p.1 i) ∙ not_and (p.0 == w) (true_at m p.1 a)) m.pairs

-- formulas of one truth value are true alike
pub true_alike : (m : FiniteModel) (w : ℕ) (a b : Formula) → true_at m w a ≡ true_at m w b → IsTrueAt m w a ↔ IsTrueAt m w b
true_alike m w a b same = (
  λ h. (true_at-IsTrueAt m w b).0 (sym same ∙ (true_at-IsTrueAt m w a).1 h),
  λ h. (true_at-IsTrueAt m w a).0 (same ∙ (true_at-IsTrueAt m w b).1 h),
)

pub nnf-IsTrueAt : (m : FiniteModel) (w : ℕ) (a : Formula) → IsTrueAt m w (nnf a) ↔ IsTrueAt m w a
nnf-IsTrueAt m w a = true_alike m w (nnf a) a (true_at-nnf_under m T a w)
