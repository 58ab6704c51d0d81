-- Negation normal form: negation at letters alone, and neither `->` nor `<->`.
use Rattle.std.specs.Prelude.{⊤}
use Rattle.lw_formula.specs.declared.sign.Sign.{Sign}
use Rattle.lw_formula.specs.declared.sign.Sign.TheVariants.{T, F}
use Rattle.lw_formula.specs.Formula.{Formula, letter, falsum, verum, neg, conj, disj, impl, equi, nec, poss}

-- the formula is a letter
abbrev pub IsLetter : Formula → Type 0
IsLetter (letter p) = ⊤
IsLetter falsum = ⊥
IsLetter verum = ⊥
IsLetter (neg a) = ⊥
IsLetter (conj a b) = ⊥
IsLetter (disj a b) = ⊥
IsLetter (impl a b) = ⊥
IsLetter (equi a b) = ⊥
IsLetter (nec a) = ⊥
IsLetter (poss a) = ⊥

-- the formula is in negation normal form
abbrev pub Nnf : Formula → Type 0
Nnf (letter p) = ⊤
Nnf falsum = ⊤
Nnf verum = ⊤
Nnf (neg a) = IsLetter a
Nnf (conj a b) = Nnf a × Nnf b
Nnf (disj a b) = Nnf a × Nnf b
Nnf (impl a b) = ⊥
Nnf (equi a b) = ⊥
Nnf (nec a) = Nnf a
Nnf (poss a) = Nnf a

-- the normal form of the formula under T, and that of its negation under F
abbrev pub nnf_under : Sign → Formula → Formula
nnf_under T (letter p) = letter p
nnf_under F (letter p) = neg (letter p)
nnf_under T falsum = falsum
nnf_under F falsum = verum
nnf_under T verum = verum
nnf_under F verum = falsum
nnf_under T (neg a) = nnf_under F a
nnf_under F (neg a) = nnf_under T a
nnf_under T (conj a b) = conj (nnf_under T a) (nnf_under T b)
nnf_under F (conj a b) = disj (nnf_under F a) (nnf_under F b)
nnf_under T (disj a b) = disj (nnf_under T a) (nnf_under T b)
nnf_under F (disj a b) = conj (nnf_under F a) (nnf_under F b)
nnf_under T (impl a b) = disj (nnf_under F a) (nnf_under T b)
nnf_under F (impl a b) = conj (nnf_under T a) (nnf_under F b)
nnf_under T (equi a b) = disj (conj (nnf_under T a) (nnf_under T b)) (conj (nnf_under F a) (nnf_under F b))
nnf_under F (equi a b) = disj (conj (nnf_under T a) (nnf_under F b)) (conj (nnf_under F a) (nnf_under T b))
nnf_under T (nec a) = nec (nnf_under T a)
nnf_under F (nec a) = poss (nnf_under F a)
nnf_under T (poss a) = poss (nnf_under T a)
nnf_under F (poss a) = nec (nnf_under F a)

-- the normal form of the formula
abbrev pub nnf : Formula → Formula
nnf a = nnf_under T a
