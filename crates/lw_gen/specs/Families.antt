-- The four families: a formula for each number from 1 on.
use Rattle.std.specs.Prelude.{ℕ, zero, suc, Bool, true, false, List, [], ◌∷◌, reverse, codes}
use Rattle.lw_formula.specs.Formula.{Formula, letter, impl, nec, poss}
use Rattle.lw_gen.specs.declared.families.Family.{Family}
use Rattle.lw_gen.specs.declared.families.Family.TheVariants.{Transitive, Reflexive, Loeb, Coded}

-- the variable p
abbrev pub p : Formula
p = letter (codes "p")

-- the formula under so many boxes
abbrev pub boxes : ℕ → Formula → Formula
boxes zero a = a
boxes (suc i) a = nec (boxes i a)

-- a binary digit as a modality: `box` for 0 (false), `dia` for 1 (true)
abbrev pub modality : Bool → Formula → Formula
modality false a = nec a
modality true a = poss a

-- the formula under a word of digits, the first one outermost
abbrev pub under : List Bool → Formula → Formula
under [] a = a
under (d ∷ ds) a = modality d (under ds a)

-- counting up by one, on the digits from the lowest to the highest without the leading 1
abbrev pub next : List Bool → List Bool
next [] = false ∷ []
next (false ∷ ds) = true ∷ ds
next (true ∷ ds) = false ∷ next ds

-- the binary digits of a number from 1 on, from the lowest to the highest, without the leading 1
abbrev pub digits : ℕ → List Bool
digits zero = []
digits (suc zero) = []
digits (suc (suc i)) = next (digits (suc i))

-- the same digits from the highest to the lowest
abbrev pub word : ℕ → List Bool
word i = reverse (digits i)

-- the family's formula for i
abbrev pub family_formula : Family → ℕ → Formula
family_formula Transitive i = impl (boxes i p) (boxes (suc i) p)
family_formula Reflexive i = impl (boxes (suc i) p) (boxes i p)
family_formula Loeb i = impl (nec (impl (boxes (suc i) p) (boxes i p))) (boxes (suc i) p)
family_formula Coded i = impl (under (word i) p) (under (digits i) p)
