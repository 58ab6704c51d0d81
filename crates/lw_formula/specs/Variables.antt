-- The variables of a formula, and substitution for one of them.
use Rattle.std.specs.Prelude.{◌≡◌, ℕ, ◌≤◌, ◌⊎◌, List, length, if◌then◌else◌, AllPairs, Contains, ◌↔◌, IsTrue}
use Rattle.std.specs.List.{AllWithin}
use Rattle.std.specs.Ordering.{nat_cmp}
use Rattle.std.specs.Cmp.Lexicographic.{slice_cmp}
use Rattle.std.specs.declared.cmp.Ordering.TheVariants.{Less}
use Rattle.std.specs.Str.{bytes_eq}
use Rattle.lw_formula.specs.Name.{is_name}
use Rattle.lw_formula.specs.Formula.{Formula, letter, falsum, verum, neg, conj, disj, impl, equi, nec, poss}

-- p is a variable of the formula
abbrev pub Occurs : List ℕ → Formula → Type 0
Occurs p (letter q) = p ≡ q
Occurs p falsum = ⊥
Occurs p verum = ⊥
Occurs p (neg a) = Occurs p a
Occurs p (conj a b) = Occurs p a ⊎ Occurs p b
Occurs p (disj a b) = Occurs p a ⊎ Occurs p b
Occurs p (impl a b) = Occurs p a ⊎ Occurs p b
Occurs p (equi a b) = Occurs p a ⊎ Occurs p b
Occurs p (nec a) = Occurs p a
Occurs p (poss a) = Occurs p a

-- the variables of the formula are names, as those of the program's own formulas are
abbrev pub HasNames : Formula → Type 0
HasNames a = (p : List ℕ) → Occurs p a → IsTrue (is_name p)

-- each name stands before those after it, so none stands twice
abbrev pub AreInByteOrder : List (List ℕ) → Type 0
AreInByteOrder names = AllPairs (λ p q. slice_cmp nat_cmp p q ≡ Less) names

-- the names are the variables of the formula, each once, in byte order
pub record AreVariables (a : Formula) (names : List (List ℕ)) : Type 0 where
  pub variables : (p : List ℕ) → Contains names p ↔ Occurs p a
  pub ordered : AreInByteOrder names

-- the new names are the old ones and the variables of the formula, in byte order
pub record AddsVariables (a : Formula) (old new : List (List ℕ)) : Type 0 where
  pub names : (p : List ℕ) → Contains new p ↔ (Contains old p ⊎ Occurs p a)
  pub ordered : AreInByteOrder new

-- each of the first i names stands before p, and p before each of the others
pub record IsGapFor (names : List (List ℕ)) (p : List ℕ) (i : ℕ) : Type 0 where
  pub within : i ≤ length names
  pub before : AllWithin (λ q. slice_cmp nat_cmp q p ≡ Less) names 0 i
  pub after : AllWithin (λ q. slice_cmp nat_cmp p q ≡ Less) names i (length names)

-- A[p := b]: the formula with b for every p
abbrev pub replace : List ℕ → Formula → Formula → Formula
replace p b (letter q) = if bytes_eq p q then b else letter q
replace p b falsum = falsum
replace p b verum = verum
replace p b (neg a) = neg (replace p b a)
replace p b (conj a c) = conj (replace p b a) (replace p b c)
replace p b (disj a c) = disj (replace p b a) (replace p b c)
replace p b (impl a c) = impl (replace p b a) (replace p b c)
replace p b (equi a c) = equi (replace p b a) (replace p b c)
replace p b (nec a) = nec (replace p b a)
replace p b (poss a) = poss (replace p b a)
