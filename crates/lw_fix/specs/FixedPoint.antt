-- Fixed points in GL, after de Jongh and Sambin (Boolos, The Logic of Provability, chapter 8).
use Rattle.std.specs.Prelude.{ℕ, suc, zero, Bool, List, length, if◌then◌else◌}
use Rattle.lw_formula.specs.declared.logic.Logic.TheVariants.{GL}
use Rattle.lw_formula.specs.Formula.{Formula, letter, falsum, verum, neg, conj, disj, impl, equi, nec, poss, same_formula}
use Rattle.lw_formula.specs.Variables.{Occurs, replace}
use Rattle.lw_formula.specs.Validity.{Valid}
use Rattle.lw_fix.specs.Outermost.{has_letter, outermost, at_outermost}

-- the formula says of p what p says
abbrev pub says_itself : List ℕ → Formula → Formula
says_itself p a = equi (letter p) a

-- d is a fixed point of the formula for p: d has no p, says what the formula says of d, and is what p is where p, here and
-- at all worlds seen, says what the formula says
pub record IsFixedPoint (p : List ℕ) (a d : Formula) : Type 0 where
  pub free : ¬ Occurs p d
  pub variables : (q : List ℕ) → Occurs q d → Occurs q a
  pub fixed : Valid GL (equi d (replace p d a))
  pub forced : Valid GL (impl (conj (says_itself p a) (nec (says_itself p a))) (equi (letter p) d))

-- what a modal formula is taken to be at first: a box true, and a dia false
abbrev pub default_of : Formula → Formula
default_of (nec a) = verum
default_of (poss a) = falsum
default_of (letter p) = letter p
default_of falsum = falsum
default_of verum = verum
default_of (neg a) = neg a
default_of (conj a b) = conj a b
default_of (disj a b) = disj a b
default_of (impl a b) = impl a b
default_of (equi a b) = equi a b

-- the formula with their defaults for the outermost modal subformulas that pass the test
abbrev pub with_defaults : (Formula → Bool) → Formula → Formula
with_defaults test a = at_outermost (λ x. if test x then default_of x else x) a

-- the formula with its default for the outermost modal subformula m
abbrev pub without : Formula → Formula → Formula
without m a = with_defaults (λ x. same_formula x m) a

-- each outermost modal subformula with p, with its own fixed point for p
abbrev pub solved : List ℕ → (Formula → Formula) → Formula → Formula
solved p point a = at_outermost (λ m. if has_letter p m then replace p (point m) m else m) a

-- the fixed point of a formula with at most n outermost modal subformulas with p
abbrev pub fix_within : ℕ → List ℕ → Formula → Formula
fix_within zero p a = a
fix_within (suc n) p a = solved p (λ m. fix_within n p (without m a)) a

-- the fixed point of the formula for p
abbrev pub fix : List ℕ → Formula → Formula
fix p a = fix_within (length (outermost p a)) p a
