-- Laws of fixed points, each a fact that stands by itself.
use Rattle.std.specs.Prelude.{◌≡◌, ◌↔◌, ℕ, List, [], ◌∷◌, Contains}
use Rattle.lw_formula.specs.declared.logic.Logic.TheVariants.{GL}
use Rattle.lw_formula.specs.FiniteModel.{AreDistinct}
use Rattle.lw_formula.specs.Formula.{Formula, equi}
use Rattle.lw_formula.specs.Variables.{Occurs, replace}
use Rattle.lw_formula.specs.Validity.{Valid}
use Rattle.lw_fix.specs.Outermost.{Modalised, IsOutermost, outermost}
use Rattle.lw_fix.specs.FixedPoint.{IsFixedPoint, without, solved, fix}

-- a formula in which p is modalised has the fixed point
abbrev pub FixIsFixedPoint : Type 0
FixIsFixedPoint = (p : List ℕ) (a : Formula) → Modalised p a → IsFixedPoint p a (fix p a)

-- what says of itself what the formula says is equivalent to it
abbrev pub FixIsUnique : Type 0
FixIsUnique = (p : List ℕ) (a e : Formula) → Modalised p a → Valid GL (equi e (replace p e a)) → Valid GL (equi e (fix p a))

-- it is the formula with, for p in each outermost modal subformula, the fixed point of the formula without that one
abbrev pub FixUnfolds : Type 0
FixUnfolds = (p : List ℕ) (a : Formula) → fix p a ≡ solved p (λ m. fix p (without m a)) a

-- the list of outermost modal subformulas with p has each of them, once, and no others
abbrev pub OutermostAreExact : Type 0
OutermostAreExact =
    (p : List ℕ) (a : Formula) →
    AreDistinct (outermost p a) × ((m : Formula) → Contains (outermost p a) m ↔ (IsOutermost m a × Occurs p m))

-- the formula with their defaults for the listed outermost modal subformulas, one after another
abbrev pub without_each : List Formula → Formula → Formula
without_each [] a = a
without_each (m ∷ ms) a = without_each ms (without m a)

-- the order in which they are replaced, and how often, says nothing
abbrev pub OrderSaysNothing : Type 0
OrderSaysNothing =
    (a : Formula) (ms ks : List Formula) → ((m : Formula) → Contains ms m ↔ Contains ks m) →
    without_each ms a ≡ without_each ks a
