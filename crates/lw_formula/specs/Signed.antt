-- Signed formulas, and sets of them (Smullyan, First-Order Logic, chapter II).
use Rattle.std.specs.Prelude.{ℕ, Bool, IsTrue}
use Rattle.lw_formula.specs.declared.sign.Sign.{Sign}
use Rattle.lw_formula.specs.declared.sign.Sign.TheVariants.{T, F}
use Rattle.lw_formula.specs.Signs.{opposite}
use Rattle.lw_formula.specs.Formula.{Formula}
use Rattle.lw_formula.specs.FiniteModel.{FiniteModel}
use Rattle.lw_formula.specs.Truth.{IsTrueAt}

-- a formula under a sign
abbrev pub Signed : Type 0
Signed = Sign × Formula

-- the same formula under the other sign
abbrev pub flip : Signed → Signed
flip s = (opposite s.0, s.1)

-- a set of signed formulas, as the test of what is in it: order and repetition don't exist
abbrev pub SignedSet : Type 0
SignedSet = Signed → Bool

-- what is signed T is true at the world, what is signed F is false there
abbrev pub HoldsSigned : FiniteModel → ℕ → Signed → Type 0
HoldsSigned m w (T, a) = IsTrueAt m w a
HoldsSigned m w (F, a) = ¬ IsTrueAt m w a

-- everything in the set holds at the world
abbrev pub Satisfies : FiniteModel → ℕ → SignedSet → Type 0
Satisfies m w set = (s : Signed) → IsTrue (set s) → HoldsSigned m w s
