-- The connectives that no intuitionistic formula has, and the first of them in a formula.
use Rattle.std.specs.Prelude.{◌≡◌, ℕ, ◌≤◌, ◌⊎◌, ⊤}
use Rattle.lw_formula.specs.Formula.{Formula, letter, falsum, verum, neg, conj, disj, impl, equi, nec, poss}
use Rattle.lw_trans.specs.declared.connective.Connective.{Connective}
use Rattle.lw_trans.specs.declared.connective.Connective.TheVariants.{Nec, Poss, Iff, Top}
use Rattle.lw_trans.specs.declared.fault.TransFault.{TransFault}
use Rattle.lw_trans.specs.declared.fault.TransFault.TheVariants.{NotIntuitionistic, Memory}

-- the connective stands in the formula
abbrev pub StandsIn : Connective → Formula → Type 0
StandsIn what (letter p) = ⊥
StandsIn what falsum = ⊥
StandsIn what verum = what ≡ Top
StandsIn what (neg a) = StandsIn what a
StandsIn what (conj a b) = StandsIn what a ⊎ StandsIn what b
StandsIn what (disj a b) = StandsIn what a ⊎ StandsIn what b
StandsIn what (impl a b) = StandsIn what a ⊎ StandsIn what b
StandsIn what (equi a b) = (what ≡ Iff) ⊎ (StandsIn what a ⊎ StandsIn what b)
StandsIn what (nec a) = (what ≡ Nec) ⊎ StandsIn what a
StandsIn what (poss a) = (what ≡ Poss) ⊎ StandsIn what a

-- an intuitionistic formula has none of the four
abbrev pub IsIntuitionistic : Formula → Type 0
IsIntuitionistic a = (what : Connective) → ¬ StandsIn what a

-- the order in which the four are named: `box`, `dia`, `<->`, `true`
abbrev pub naming_place : Connective → ℕ
naming_place Nec = 0
naming_place Poss = 1
naming_place Iff = 2
naming_place Top = 3

-- the connective is the first in this order that stands in the formula
pub record IsFirst (what : Connective) (a : Formula) : Type 0 where
  pub stands : StandsIn what a
  pub first : (other : Connective) → StandsIn other a → naming_place what ≤ naming_place other

-- the fault names what makes the formula none of intuitionistic logic, or is want of memory
abbrev pub IsFaultOf : Formula → TransFault → Type 0
IsFaultOf a (NotIntuitionistic what) = IsFirst what a
IsFaultOf a Memory = ⊤
