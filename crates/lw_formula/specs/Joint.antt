-- Formulas with a connective between two others.
use Rattle.std.specs.Prelude.{Option, Some, None}
use Rattle.lw_formula.specs.declared.joint.Joint.{Joint}
use Rattle.lw_formula.specs.declared.joint.Joint.TheVariants.{And, Or, Imp, Iff}
use Rattle.lw_formula.specs.Formula.{Formula, letter, falsum, verum, neg, conj, disj, impl, equi, nec, poss}

-- the formula of two operands
abbrev pub join : Joint → Formula → Formula → Formula
join And a b = conj a b
join Or a b = disj a b
join Imp a b = impl a b
join Iff a b = equi a b

-- the main connective, where it stands between two operands
abbrev pub joint_of : Formula → Option Joint
joint_of (conj a b) = Some And
joint_of (disj a b) = Some Or
joint_of (impl a b) = Some Imp
joint_of (equi a b) = Some Iff
joint_of (letter p) = None
joint_of falsum = None
joint_of verum = None
joint_of (neg a) = None
joint_of (nec a) = None
joint_of (poss a) = None
