-- Laws of the truth of letterless formulas in GL, each a fact that stands by itself.
use Rattle.std.specs.Prelude.{◌≡◌, ◌↔◌, ℕ, ◌<◌, ◌≤◌, true, [], IsTrue}
use Rattle.lw_formula.specs.declared.logic.Logic.TheVariants.{GL}
use Rattle.lw_formula.specs.Class.{Class}
use Rattle.lw_formula.specs.FiniteModel.{FiniteModel}
use Rattle.lw_formula.specs.Formula.{Formula, equi, depth}
use Rattle.lw_formula.specs.Truth.{IsTrueAt}
use Rattle.lw_formula.specs.Validity.{Valid}
use Rattle.lw_trace.specs.Heights.{height, AreHeights}
use Rattle.lw_trace.specs.LetterlessTruth.{IsLetterless, holds_at, rest, trace_of}
use Rattle.lw_trace.specs.LetterlessForm.{letterless_of}

-- in each model of GL a world that sees none has height 0, and another one more than the greatest height that it sees
abbrev pub HeightsAreExact : Type 0
HeightsAreExact = (m : FiniteModel) → Class GL m → AreHeights m (height m)

-- a letterless formula is true at the worlds of a model of GL exactly as their heights tell
abbrev pub TruthGoesByHeight : Type 0
TruthGoesByHeight =
    (m : FiniteModel) → Class GL m → (a : Formula) → IsLetterless a → (w : ℕ) → w < m.worlds →
    IsTrueAt m w a ↔ IsTrue (holds_at a (height m w))

-- from the modal depth on the truth value doesn't change
abbrev pub TruthSettles : Type 0
TruthSettles = (a : Formula) (n : ℕ) → depth a ≤ n → holds_at a n ≡ rest a

-- a letterless formula is valid in GL exactly where its trace is yes with no exceptions
abbrev pub TraceDecides : Type 0
TraceDecides = (a : Formula) → IsLetterless a → Valid GL a ↔ (trace_of a ≡ record { rest = true; heights = [] })

-- a letterless formula is equivalent to its normal form in GL
abbrev pub FormIsEquivalent : Type 0
FormIsEquivalent = (a : Formula) → IsLetterless a → Valid GL (equi a (letterless_of a))

-- two letterless formulas are equivalent in GL exactly where they have one normal form
abbrev pub FormIsUnique : Type 0
FormIsUnique =
    (a b : Formula) → IsLetterless a → IsLetterless b → Valid GL (equi a b) ↔ (letterless_of a ≡ letterless_of b)

-- the normal form has no variables
abbrev pub FormIsLetterless : Type 0
FormIsLetterless = (a : Formula) → IsLetterless (letterless_of a)
