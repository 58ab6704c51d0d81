-- The code of formulas, by which a `Model` can have them in its `Value`: a tree of numbers that gives the formula back.
use Rattle.std.specs.Prelude.{◌≡◌, ℕ, ◌==◌, if◌then◌else◌, List, [], ◌∷◌}
use Rattle.std.proofs.Common.{refl, sym, ap, ◌∙◌}
use base.Stored.{Gv, gnil, gnum, gcons, num, Coded}
use Rattle.lw_formula.specs.Formula.{Formula, letter, falsum, verum, neg, conj, disj, impl, equi, nec, poss}

abbrev pub bytes_code : List ℕ → Gv
bytes_code [] = gnil
bytes_code (x ∷ xs) = gcons (gnum x) (bytes_code xs)

abbrev pub bytes_back : Gv → List ℕ
bytes_back gnil = []
bytes_back (gnum n) = []
bytes_back (gcons a b) = num a ∷ bytes_back b

pub bytes_back-bytes_code : (xs : List ℕ) → bytes_back (bytes_code xs) ≡ xs
bytes_back-bytes_code [] = refl
bytes_back-bytes_code (x ∷ xs) = ap (λ ys. x ∷ ys) (bytes_back-bytes_code xs)

-- a number for the shape, then what stands below it
abbrev pub formula_code : Formula → Gv
formula_code (letter p) = gcons (gnum 0) (gcons (bytes_code p) gnil)
formula_code falsum = gcons (gnum 1) (gcons gnil gnil)
formula_code verum = gcons (gnum 2) (gcons gnil gnil)
formula_code (neg a) = gcons (gnum 3) (gcons (formula_code a) gnil)
formula_code (conj a b) = gcons (gnum 4) (gcons (formula_code a) (formula_code b))
formula_code (disj a b) = gcons (gnum 5) (gcons (formula_code a) (formula_code b))
formula_code (impl a b) = gcons (gnum 6) (gcons (formula_code a) (formula_code b))
formula_code (equi a b) = gcons (gnum 7) (gcons (formula_code a) (formula_code b))
formula_code (nec a) = gcons (gnum 8) (gcons (formula_code a) gnil)
formula_code (poss a) = gcons (gnum 9) (gcons (formula_code a) gnil)

-- the formula of the shape with this number
abbrev pub shaped : ℕ → List ℕ → Formula → Formula → Formula
shaped k p a b =
    if k == 0 then letter p else
    if k == 1 then falsum else
    if k == 2 then verum else
    if k == 3 then neg a else
    if k == 4 then conj a b else
    if k == 5 then disj a b else
    if k == 6 then impl a b else
    if k == 7 then equi a b else
    if k == 8 then nec a else poss a

abbrev pub formula_back : Gv → Formula
formula_back (gcons t (gcons a b)) = shaped (num t) (bytes_back a) (formula_back a) (formula_back b)
formula_back _ = falsum

pub formula_back-formula_code : (a : Formula) → formula_back (formula_code a) ≡ a
formula_back-formula_code (letter p) = ap letter (bytes_back-bytes_code p)
formula_back-formula_code falsum = refl
formula_back-formula_code verum = refl
formula_back-formula_code (neg a) = ap neg (formula_back-formula_code a)
formula_back-formula_code (conj a b) = λ i. conj (formula_back-formula_code a i) (formula_back-formula_code b i)
formula_back-formula_code (disj a b) = λ i. disj (formula_back-formula_code a i) (formula_back-formula_code b i)
formula_back-formula_code (impl a b) = λ i. impl (formula_back-formula_code a i) (formula_back-formula_code b i)
formula_back-formula_code (equi a b) = λ i. equi (formula_back-formula_code a i) (formula_back-formula_code b i)
formula_back-formula_code (nec a) = ap nec (formula_back-formula_code a)
formula_back-formula_code (poss a) = ap poss (formula_back-formula_code a)

abbrev pub coded_formula : Coded Formula
coded_formula = record {
  code = formula_code;
  inj = λ a b p. sym (formula_back-formula_code a) ∙ ap formula_back p ∙ formula_back-formula_code b;
}
