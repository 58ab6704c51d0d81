-- What the rules have to know of signed formulas. The rules are stated once, over anything that tells this much.
use Rattle.std.specs.Prelude.{Bool, true, false, ◌&&◌, IsTrue, Option}
use Rattle.lw_formula.specs.declared.parts.Parts.{Parts}
use Rattle.lw_formula.specs.declared.sign.Sign.{Sign}
use Rattle.lw_formula.specs.declared.sign.Sign.TheVariants.{T, F}
use Rattle.lw_formula.specs.Formula.{nec, poss, same_formula}
use Rattle.lw_formula.specs.Signed as signed
use Rattle.lw_formula.specs.Signed.{Signed}
use Rattle.lw_formula.specs.Components.{parts_of, guard_of}
use Rattle.lw_formula.specs.Components as components

-- a set, as the test of what is in it
abbrev pub Set : Type 0 → Type 0
Set I = I → Bool

-- all members of the first set are in the second
abbrev pub IsWithin : {I : Type 0} → Set I → Set I → Type 0
IsWithin {I} X Y = (s : I) → IsTrue (X s) → IsTrue (Y s)

-- a kind of signed formulas, and what the rules have to know of each
pub record System (I : Type 0) : Type 0 where
  -- what it comes to by its main connective
  pub parts : I → Parts I
  -- the same formula under the other sign
  pub flip : I → I
  -- what the step of Grz adds for a π
  pub guard : I → Option I
  -- the sign
  pub sign : I → Sign
  -- whether it is `T false` or `F true`
  pub is_absurd : I → Bool
  -- whether two are one
  pub same : I → I → Bool
  -- the components of the ν in a set
  pub under : Set I → Set I

-- whether two signs are one
abbrev pub same_sign : Sign → Sign → Bool
same_sign T T = true
same_sign F F = true
same_sign _ _ = false

-- whether two signed formulas are one
abbrev pub same_signed : Signed → Signed → Bool
same_signed s t = same_sign s.0 t.0 && same_formula s.1 t.1

-- the one ν that has this component
abbrev pub nu_of : Signed → Signed
nu_of (T, a) = (T, nec a)
nu_of (F, a) = (F, poss a)

-- signed formulas themselves
abbrev pub trees : System Signed
trees = record {
  parts = parts_of;
  flip = signed.flip;
  guard = guard_of;
  sign = λ s. s.0;
  is_absurd = components.is_absurd;
  same = same_signed;
  under = λ X s. X (nu_of s);
}
