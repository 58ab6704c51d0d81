-- Truth of a formula at a world of a finite model (Kripke's truth conditions; Goré, section 2), and a test that computes it.
use Rattle.std.specs.Prelude.{ℕ, ◌⊎◌, ◌↔◌, Bool, true, false, not, ◌&&◌, ◌||◌, ◌==◌, List, ⊤}
use Rattle.std.specs.Bool.{beq}
use Rattle.std.specs.List.{list_all, list_any}
use Rattle.std.specs.Str.{bytes_eq}
use Rattle.lw_formula.specs.Formula.{Formula, letter, falsum, verum, neg, conj, disj, impl, equi, nec, poss}
use Rattle.lw_formula.specs.FiniteModel.{FiniteModel, Sees, HasFact}

-- the formula is true at world w
abbrev pub IsTrueAt : FiniteModel → ℕ → Formula → Type 0
IsTrueAt m w (letter p) = HasFact m w p
IsTrueAt m w falsum = ⊥
IsTrueAt m w verum = ⊤
IsTrueAt m w (neg a) = ¬ IsTrueAt m w a
IsTrueAt m w (conj a b) = IsTrueAt m w a × IsTrueAt m w b
IsTrueAt m w (disj a b) = IsTrueAt m w a ⊎ IsTrueAt m w b
IsTrueAt m w (impl a b) = IsTrueAt m w a → IsTrueAt m w b
IsTrueAt m w (equi a b) = IsTrueAt m w a ↔ IsTrueAt m w b
IsTrueAt m w (nec a) = (v : ℕ) → Sees m w v → IsTrueAt m v a
IsTrueAt m w (poss a) = (v : ℕ) × Sees m w v × IsTrueAt m v a

-- whether the list of facts has this one
abbrev pub has_fact : List (ℕ × List ℕ) → ℕ → List ℕ → Bool
has_fact facts w p = list_any (λ f. (f.0 == w) && bytes_eq f.1 p) facts

-- the same, computed: at `box` over all pairs of the world, at `dia` over some
abbrev pub true_at : FiniteModel → ℕ → Formula → Bool
true_at m w (letter p) = has_fact m.facts w p
true_at m w falsum = false
true_at m w verum = true
true_at m w (neg a) = not (true_at m w a)
true_at m w (conj a b) = true_at m w a && true_at m w b
true_at m w (disj a b) = true_at m w a || true_at m w b
true_at m w (impl a b) = not (true_at m w a) || true_at m w b
true_at m w (equi a b) = beq (true_at m w a) (true_at m w b)
true_at m w (nec a) = list_all (λ p. not (p.0 == w) || true_at m p.1 a) m.pairs
true_at m w (poss a) = list_any (λ p. (p.0 == w) && true_at m p.1 a) m.pairs
