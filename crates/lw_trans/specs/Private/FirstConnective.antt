-- The first of the four connectives in a formula, as the walk finds it.
use Rattle.std.specs.Prelude.{Option, Some, None, nat_le, if◌then◌else◌}
use Rattle.lw_formula.specs.Formula.{Formula, letter, falsum, verum, neg, conj, disj, impl, equi, nec, poss}
use Rattle.lw_trans.specs.declared.connective.Connective.{Connective}
use Rattle.lw_trans.specs.declared.connective.Connective.TheVariants.{Nec, Poss, Iff, Top}
use Rattle.lw_trans.specs.Connectives.{naming_place}

-- the earlier of the two, where there are two
abbrev pub earlier : Option Connective → Option Connective → Option Connective
earlier None right = right
earlier (Some left) None = Some left
earlier (Some left) (Some right) = if nat_le (naming_place left) (naming_place right) then Some left else Some right

-- the first of the four that stands in the formula
abbrev pub first_of : Formula → Option Connective
first_of (letter p) = None
first_of falsum = None
first_of verum = Some Top
first_of (neg a) = first_of a
first_of (conj a b) = earlier (first_of a) (first_of b)
first_of (disj a b) = earlier (first_of a) (first_of b)
first_of (impl a b) = earlier (first_of a) (first_of b)
first_of (equi a b) = earlier (Some Iff) (earlier (first_of a) (first_of b))
first_of (nec a) = earlier (Some Nec) (first_of a)
first_of (poss a) = earlier (Some Poss) (first_of a)
