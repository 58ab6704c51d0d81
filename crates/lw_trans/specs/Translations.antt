-- Two translations between logics: Gödel's of intuitionistic logic into S4, in the form with `box` at letters (McKinsey
-- and Tarski), and that of Grz into GL, which reads `box` as "it is provable and true" (Boolos, The Logic of Provability).
use Rattle.lw_formula.specs.Formula.{Formula, letter, falsum, verum, neg, conj, disj, impl, equi, nec, poss}

-- Gödel's translation. The last four rows are of no intuitionistic formula.
abbrev pub goedel : Formula → Formula
goedel (letter p) = nec (letter p)
goedel falsum = falsum
goedel (neg a) = nec (neg (goedel a))
goedel (conj a b) = conj (goedel a) (goedel b)
goedel (disj a b) = disj (goedel a) (goedel b)
goedel (impl a b) = nec (impl (goedel a) (goedel b))
goedel verum = verum
goedel (equi a b) = equi (goedel a) (goedel b)
goedel (nec a) = nec (goedel a)
goedel (poss a) = poss (goedel a)

-- "boxdot": `box B & B` for `box B`, and `dia B v B` for `dia B`
abbrev pub boxdot : Formula → Formula
boxdot (letter p) = letter p
boxdot falsum = falsum
boxdot verum = verum
boxdot (neg a) = neg (boxdot a)
boxdot (conj a b) = conj (boxdot a) (boxdot b)
boxdot (disj a b) = disj (boxdot a) (boxdot b)
boxdot (impl a b) = impl (boxdot a) (boxdot b)
boxdot (equi a b) = equi (boxdot a) (boxdot b)
boxdot (nec a) = conj (nec (boxdot a)) (boxdot a)
boxdot (poss a) = disj (poss (boxdot a)) (boxdot a)
