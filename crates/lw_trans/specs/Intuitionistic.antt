-- Intuitionistic logic by its finite models (Kripke 1965): the worlds are states of knowledge, and what is known stays known.
use Rattle.std.specs.Prelude.{ℕ, ◌<◌, ◌⊎◌, List}
use Rattle.lw_formula.specs.declared.logic.Logic.TheVariants.{S4}
use Rattle.lw_formula.specs.Formula.{Formula, letter, falsum, verum, neg, conj, disj, impl, equi, nec, poss}
use Rattle.lw_formula.specs.FiniteModel.{FiniteModel, Sees, HasFact}
use Rattle.lw_formula.specs.Class.{Class}

-- a letter that is true at a world is true at every world that it sees
abbrev pub FactsGoUp : FiniteModel → Type 0
FactsGoUp m = (p : List ℕ) (w v : ℕ) → HasFact m w p → Sees m w v → HasFact m v p

-- a finite preorder whose facts go upwards
pub record IsIntuitionisticModel (m : FiniteModel) : Type 0 where
  pub preorder : Class S4 m
  pub upwards : FactsGoUp m

-- the world forces the formula. The last four rows are of no intuitionistic formula.
abbrev pub Forces : FiniteModel → ℕ → Formula → Type 0
Forces m w (letter p) = HasFact m w p
Forces m w falsum = ⊥
Forces m w (neg a) = (v : ℕ) → Sees m w v → ¬ Forces m v a
Forces m w (conj a b) = Forces m w a × Forces m w b
Forces m w (disj a b) = Forces m w a ⊎ Forces m w b
Forces m w (impl a b) = (v : ℕ) → Sees m w v → Forces m v a → Forces m v b
Forces m w verum = ⊥
Forces m w (equi a b) = ⊥
Forces m w (nec a) = ⊥
Forces m w (poss a) = ⊥

-- the formula is forced at every world of every finite intuitionistic model
abbrev pub IntValid : Formula → Type 0
IntValid a = (m : FiniteModel) → IsIntuitionisticModel m → (w : ℕ) → w < m.worlds → Forces m w a
