-- The outermost modal subformulas of a formula (Boolos, The Logic of Provability, chapter 8).
use Rattle.std.specs.Prelude.{◌≡◌, ◌⊎◌, ℕ, Bool, false, ◌||◌, List, [], ◌∷◌, if◌then◌else◌}
use Rattle.std.specs.Str.{bytes_eq}
use Rattle.lw_formula.specs.Formula.{Formula, letter, falsum, verum, neg, conj, disj, impl, equi, nec, poss, union}

-- p has an occurrence in the formula under no modality
abbrev pub StandsBare : List ℕ → Formula → Type 0
StandsBare p (letter q) = p ≡ q
StandsBare p falsum = ⊥
StandsBare p verum = ⊥
StandsBare p (neg a) = StandsBare p a
StandsBare p (conj a b) = StandsBare p a ⊎ StandsBare p b
StandsBare p (disj a b) = StandsBare p a ⊎ StandsBare p b
StandsBare p (impl a b) = StandsBare p a ⊎ StandsBare p b
StandsBare p (equi a b) = StandsBare p a ⊎ StandsBare p b
StandsBare p (nec a) = ⊥
StandsBare p (poss a) = ⊥

-- every occurrence of p is under `box` or `dia`
abbrev pub Modalised : List ℕ → Formula → Type 0
Modalised p a = ¬ StandsBare p a

-- m begins with `box` or `dia` and has an occurrence in the formula under no modality
abbrev pub IsOutermost : Formula → Formula → Type 0
IsOutermost m (letter p) = ⊥
IsOutermost m falsum = ⊥
IsOutermost m verum = ⊥
IsOutermost m (neg a) = IsOutermost m a
IsOutermost m (conj a b) = IsOutermost m a ⊎ IsOutermost m b
IsOutermost m (disj a b) = IsOutermost m a ⊎ IsOutermost m b
IsOutermost m (impl a b) = IsOutermost m a ⊎ IsOutermost m b
IsOutermost m (equi a b) = IsOutermost m a ⊎ IsOutermost m b
IsOutermost m (nec a) = m ≡ nec a
IsOutermost m (poss a) = m ≡ poss a

-- whether p is a variable of the formula
abbrev pub has_letter : List ℕ → Formula → Bool
has_letter p (letter q) = bytes_eq p q
has_letter p falsum = false
has_letter p verum = false
has_letter p (neg a) = has_letter p a
has_letter p (conj a b) = has_letter p a || has_letter p b
has_letter p (disj a b) = has_letter p a || has_letter p b
has_letter p (impl a b) = has_letter p a || has_letter p b
has_letter p (equi a b) = has_letter p a || has_letter p b
has_letter p (nec a) = has_letter p a
has_letter p (poss a) = has_letter p a

-- the formula alone, if p is in it
abbrev pub if_with : List ℕ → Formula → List Formula
if_with p m = if has_letter p m then m ∷ [] else []

-- the outermost modal subformulas with p, each once
abbrev pub outermost : List ℕ → Formula → List Formula
outermost p (letter q) = []
outermost p falsum = []
outermost p verum = []
outermost p (neg a) = outermost p a
outermost p (conj a b) = union (outermost p a) (outermost p b)
outermost p (disj a b) = union (outermost p a) (outermost p b)
outermost p (impl a b) = union (outermost p a) (outermost p b)
outermost p (equi a b) = union (outermost p a) (outermost p b)
outermost p (nec a) = if_with p (nec a)
outermost p (poss a) = if_with p (poss a)

-- the formula with f of each outermost modal subformula in its place
abbrev pub at_outermost : (Formula → Formula) → Formula → Formula
at_outermost f (letter p) = letter p
at_outermost f falsum = falsum
at_outermost f verum = verum
at_outermost f (neg a) = neg (at_outermost f a)
at_outermost f (conj a b) = conj (at_outermost f a) (at_outermost f b)
at_outermost f (disj a b) = disj (at_outermost f a) (at_outermost f b)
at_outermost f (impl a b) = impl (at_outermost f a) (at_outermost f b)
at_outermost f (equi a b) = equi (at_outermost f a) (at_outermost f b)
at_outermost f (nec a) = f (nec a)
at_outermost f (poss a) = f (poss a)
