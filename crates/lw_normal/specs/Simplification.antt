-- Simplification, from the inside out: of the rows of a connective the first that fits gives the result.
use Rattle.std.specs.Prelude.{if◌then◌else◌}
use Rattle.lw_formula.specs.Formula.{Formula, letter, falsum, verum, neg, conj, disj, impl, equi, nec, poss, same_formula}

-- `~X`, where X is simplified
abbrev pub not_of : Formula → Formula
not_of (letter p) = neg (letter p)
not_of falsum = verum
not_of verum = falsum
not_of (neg a) = a
not_of (conj a b) = neg (conj a b)
not_of (disj a b) = neg (disj a b)
not_of (impl a b) = neg (impl a b)
not_of (equi a b) = neg (equi a b)
not_of (nec a) = neg (nec a)
not_of (poss a) = neg (poss a)

-- `X & Y`, where both are simplified
abbrev pub and_of : Formula → Formula → Formula
and_of x y =
    if same_formula x falsum then falsum else
    if same_formula y falsum then falsum else
    if same_formula x verum then y else
    if same_formula y verum then x else
    if same_formula x y then x else
    if same_formula x (neg y) then falsum else
    if same_formula y (neg x) then falsum else
    conj x y

-- `X v Y`
abbrev pub or_of : Formula → Formula → Formula
or_of x y =
    if same_formula x verum then verum else
    if same_formula y verum then verum else
    if same_formula x falsum then y else
    if same_formula y falsum then x else
    if same_formula x y then x else
    if same_formula x (neg y) then verum else
    if same_formula y (neg x) then verum else
    disj x y

-- `X -> Y`
abbrev pub imp_of : Formula → Formula → Formula
imp_of x y =
    if same_formula x falsum then verum else
    if same_formula y verum then verum else
    if same_formula x y then verum else
    if same_formula x verum then y else
    if same_formula y falsum then not_of x else
    impl x y

-- `X <-> Y`
abbrev pub iff_of : Formula → Formula → Formula
iff_of x y =
    if same_formula x y then verum else
    if same_formula x verum then y else
    if same_formula y verum then x else
    if same_formula x falsum then not_of y else
    if same_formula y falsum then not_of x else
    equi x y

-- `box X`
abbrev pub box_of : Formula → Formula
box_of x = if same_formula x verum then verum else nec x

-- `dia X`
abbrev pub dia_of : Formula → Formula
dia_of x = if same_formula x falsum then falsum else poss x

-- the simplified formula
abbrev pub simplify : Formula → Formula
simplify (letter p) = letter p
simplify falsum = falsum
simplify verum = verum
simplify (neg a) = not_of (simplify a)
simplify (conj a b) = and_of (simplify a) (simplify b)
simplify (disj a b) = or_of (simplify a) (simplify b)
simplify (impl a b) = imp_of (simplify a) (simplify b)
simplify (equi a b) = iff_of (simplify a) (simplify b)
simplify (nec a) = box_of (simplify a)
simplify (poss a) = dia_of (simplify a)
