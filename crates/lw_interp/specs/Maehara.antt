-- Maehara's method over the two sides of a set (Takeuti, Proof theory, section 6; Fitting, Proof methods for modal and intuitionistic
-- logics, for tableaux): of `A -> B`, what comes of A stands on the left, what comes of B on the right.
use Rattle.std.specs.Prelude.{Bool, true, false, List, [], ◌∷◌}
use Rattle.lw_formula.specs.declared.logic.Logic.{Logic}
use Rattle.lw_formula.specs.declared.sign.Sign.TheVariants.{T, F}
use Rattle.lw_formula.specs.declared.parts.Parts.{Parts}
use Rattle.lw_formula.specs.Formula.{Formula, falsum, verum, neg, conj, disj, nec, poss}
use Rattle.lw_formula.specs.Signed.{Signed, SignedSet, flip}
use Rattle.lw_formula.specs.Components.{parts_of}
use Rattle.lw_proof.specs.declared.rule.Rule.{Rule}
use Rattle.lw_proof.specs.Tree.{Tree, Forest, node, more}
use Rattle.lw_proof.specs.System.{trees}
use Rattle.lw_proof.specs.Derivation.{side, plus, kept, added, only}

-- a set in two parts; a signed formula may be in both
pub record Sides : Type 0 where
  pub left : SignedSet
  pub right : SignedSet

-- the sides with these signed formulas on the left where the first is true, else on the right where the second is; what is on neither
-- side (`F A -> B` itself) adds nothing
abbrev pub put : Bool → Bool → List Signed → Sides → Sides
put true r cs V = record { left = plus trees cs V.left; right = V.right }
put false true cs V = record { left = V.left; right = plus trees cs V.right }
put false false cs V = V

-- the sides V, with these signed formulas on the side that s has in W
abbrev pub put_beside : Sides → Signed → List Signed → Sides → Sides
put_beside W s cs V = put (W.left s) (W.right s) cs V

-- what a step keeps of each side
abbrev pub kept_sides : Logic → Sides → Sides
kept_sides L W = record { left = kept trees L W.left; right = kept trees L W.right }

-- the sides of the premises of a rule on s, which comes to p: components go to the side of s; none where p isn't what the rule takes
abbrev pub splits : Logic → Rule → Signed → Parts Signed → Sides → List Sides
splits L Rule.Close s p W = []
splits L Rule.Absurd s p W = []
splits L Rule.One s (Parts.One c d) W = put_beside W s (side c d) W ∷ []
splits L Rule.One s _ W = []
splits L Rule.Two s (Parts.Two a b) W = put_beside W s (side a.0 a.1) W ∷ put_beside W s (side b.0 b.1) W ∷ []
splits L Rule.Two s _ W = []
splits L Rule.Refl s (Parts.Nu c) W = put_beside W s (c ∷ []) W ∷ []
splits L Rule.Refl s _ W = []
splits L Rule.Step s (Parts.Pi c) W = put_beside W s (added trees L s c) (kept_sides L W) ∷ []
splits L Rule.Step s _ W = []
splits L Rule.Serial s p W = []
splits L Rule.Cut s p W = []

-- the interpolant of a Close on a, where the tests say whether `T a` and `F a` are on the left
abbrev pub closing : Bool → Bool → Formula → Formula
closing true true a = falsum
closing true false a = a
closing false true a = neg a
closing false false a = verum

-- the interpolant of an Absurd: whether its principal is on the left
abbrev pub absurdity : Bool → Formula
absurdity true = falsum
absurdity false = verum

-- the interpolant of a Two: whether its principal is on the left, and the interpolants of its premises
abbrev pub of_two : Bool → Formula → Formula → Formula
of_two true j k = disj j k
of_two false j k = conj j k

-- the interpolant of a Step: whether its principal is on the left, and the interpolant of its premise
abbrev pub of_step : Bool → Formula → Formula
of_step true j = poss j
of_step false j = nec j

-- the table of last steps: the interpolant of a step on s from those of its premises; `true` where their number isn't the rule's
abbrev pub joined : Rule → Signed → Sides → List Formula → Formula
joined Rule.Close s W js = closing (W.left s) (W.left (flip s)) s.1
joined Rule.Absurd s W js = absurdity (W.left s)
joined Rule.One s W (j ∷ []) = j
joined Rule.One s W _ = verum
joined Rule.Two s W (j ∷ k ∷ []) = of_two (W.left s) j k
joined Rule.Two s W _ = verum
joined Rule.Refl s W (j ∷ []) = j
joined Rule.Refl s W _ = verum
joined Rule.Step s W (j ∷ []) = of_step (W.left s) j
joined Rule.Step s W _ = verum
joined Rule.Serial s W js = verum
joined Rule.Cut s W js = verum

-- the interpolant that is read off a proof which closes the set of both sides
abbrev mutual
  pub read_off : Logic → Sides → Tree Signed → Formula
  read_off L W (node r s ts) = joined r s W (read_all L (splits L r s (parts_of s) W) ts)

  pub read_all : Logic → List Sides → Forest Signed → List Formula
  read_all L (W ∷ Ws) (more t ts) = read_off L W t ∷ read_all L Ws ts
  read_all L _ _ = []

-- the sides of `A -> B`: `T A` and `F B`
abbrev pub start : Formula → Formula → Sides
start a b = record { left = only (T, a); right = only (F, b) }

-- the interpolant that is read off a proof of `A -> B`
abbrev pub interpolant_of : Logic → Formula → Formula → Tree Signed → Formula
interpolant_of L a b P = read_off L (start a b) P
