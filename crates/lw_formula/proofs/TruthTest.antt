-- The test of truth decides truth.
use Rattle.std.proofs.Common.{◌≡◌, ℕ, ◌==◌, ◌&&◌, ◌||◌, not, List, refl, subst}
use Rattle.std.proofs.lemmas.Bool.{false≢true}
use Rattle.std.proofs.lemmas.Bool.Decides.{Decides-and, Decides-or, Decides-not, Decides-like, Decides-eqb}
use Rattle.std.proofs.lemmas.Slice.Eq.{bytes_eq-Decides}
use Rattle.std.specs.Bool.{Decides}
use Rattle.std.specs.List.{Contains}
use Rattle.std.specs.Str.{bytes_eq}
use Rattle.lw_formula.specs.Formula.{Formula, letter, falsum, verum, neg, conj, disj, impl, equi, nec, poss}
use Rattle.lw_formula.specs.FiniteModel.{FiniteModel}
use Rattle.lw_formula.specs.Truth.{IsTrueAt, true_at, has_fact}
use Rattle.lw_formula.proofs.ListTests.{list_all-Decides, list_any-Decides, list_any-Contains, Decides-implies, Decides-iff, Decides-pair}

pub has_fact-Contains : (facts : List (ℕ × List ℕ)) (w : ℕ) (p : List ℕ) → Decides (has_fact facts w p) (Contains facts (w, p))
has_fact-Contains facts w p =
    list_any-Contains (λ f. (f.0 == w) && bytes_eq f.1 p) (w, p)
    (λ f. Decides-pair f (w, p) (f.0 == w) (bytes_eq f.1 p) (Decides-eqb f.0 w) (bytes_eq-Decides f.1 p))
    facts

pub true_at-IsTrueAt : (m : FiniteModel) (w : ℕ) (a : Formula) → Decides (true_at m w a) (IsTrueAt m w a)
true_at-IsTrueAt m w (letter p) = has_fact-Contains m.facts w p
true_at-IsTrueAt m w falsum = (λ e. false≢true e, λ h. absurd h)
true_at-IsTrueAt m w verum = (λ e. tt, λ h. refl)
true_at-IsTrueAt m w (neg a) = Decides-not (true_at m w a) (true_at-IsTrueAt m w a)
true_at-IsTrueAt m w (conj a b) = Decides-and (true_at m w a) (true_at m w b) (true_at-IsTrueAt m w a) (true_at-IsTrueAt m w b)
true_at-IsTrueAt m w (disj a b) = Decides-or (true_at m w a) (true_at m w b) (true_at-IsTrueAt m w a) (true_at-IsTrueAt m w b)
true_at-IsTrueAt m w (impl a b) = Decides-implies (true_at m w a) (true_at m w b) (true_at-IsTrueAt m w a) (true_at-IsTrueAt m w b)
true_at-IsTrueAt m w (equi a b) = Decides-iff (true_at m w a) (true_at m w b) (true_at-IsTrueAt m w a) (true_at-IsTrueAt m w b)
true_at-IsTrueAt m w (nec a) =
    Decides-like (true_at m w (nec a))
    (λ all v sees. all (w, v) sees refl)
    (λ all p sees e. all p.1 (subst (λ u. Contains m.pairs (u, p.1)) e sees))
    (list_all-Decides (λ p. not (p.0 == w) || true_at m p.1 a) (λ p. p.0 ≡ w → IsTrueAt m p.1 a)
    (λ p. Decides-implies (p.0 == w) (true_at m p.1 a) (Decides-eqb p.0 w) (true_at-IsTrueAt m p.1 a))
    m.pairs)
true_at-IsTrueAt m w (poss a) =
    Decides-like (true_at m w (poss a))
    (λ some. (some.0.1, subst (λ u. Contains m.pairs (u, some.0.1)) some.2.0 some.1, some.2.1))
    (λ some. ((w, some.0), some.1, (refl, some.2)))
    (list_any-Decides (λ p. (p.0 == w) && true_at m p.1 a) (λ p. (p.0 ≡ w) × IsTrueAt m p.1 a)
    (λ p. Decides-and (p.0 == w) (true_at m p.1 a) (Decides-eqb p.0 w) (true_at-IsTrueAt m p.1 a))
    m.pairs)
