-- The formulas of propositional modal logic, as the contracts see them: trees of ten shapes.
use Rattle.std.specs.Prelude.{◌≡◌, ℕ, ◌+◌, ◌⊎◌, Bool, true, false, ◌&&◌, max, not, List, [], ◌∷◌, ◌++◌, length}
use Rattle.std.specs.List.{list_any, filter}
use Rattle.std.specs.Str.{bytes_eq}

-- a formula; a letter is a propositional variable, given by the bytes of its name
pub data Formula : Type 0 where
  letter : List ℕ → Formula
  falsum : Formula
  verum : Formula
  neg : Formula → Formula
  conj : Formula → Formula → Formula
  disj : Formula → Formula → Formula
  impl : Formula → Formula → Formula
  equi : Formula → Formula → Formula
  nec : Formula → Formula
  poss : Formula → Formula

-- the modal depth: the greatest number of `box` and `dia` above a leaf
abbrev pub depth : Formula → ℕ
depth (letter p) = 0
depth falsum = 0
depth verum = 0
depth (neg a) = depth a
depth (conj a b) = max (depth a) (depth b)
depth (disj a b) = max (depth a) (depth b)
depth (impl a b) = max (depth a) (depth b)
depth (equi a b) = max (depth a) (depth b)
depth (nec a) = depth a + 1
depth (poss a) = depth a + 1

-- the number of nodes of the tree
abbrev pub nodes : Formula → ℕ
nodes (letter p) = 1
nodes falsum = 1
nodes verum = 1
nodes (neg a) = nodes a + 1
nodes (conj a b) = nodes a + nodes b + 1
nodes (disj a b) = nodes a + nodes b + 1
nodes (impl a b) = nodes a + nodes b + 1
nodes (equi a b) = nodes a + nodes b + 1
nodes (nec a) = nodes a + 1
nodes (poss a) = nodes a + 1

-- whether the formula begins with `box` or `dia`
abbrev pub is_modal : Formula → Bool
is_modal (nec a) = true
is_modal (poss a) = true
is_modal _ = false

-- c is an operand of the formula's main connective
abbrev pub IsOperand : Formula → Formula → Type 0
IsOperand c (neg a) = c ≡ a
IsOperand c (conj a b) = (c ≡ a) ⊎ (c ≡ b)
IsOperand c (disj a b) = (c ≡ a) ⊎ (c ≡ b)
IsOperand c (impl a b) = (c ≡ a) ⊎ (c ≡ b)
IsOperand c (equi a b) = (c ≡ a) ⊎ (c ≡ b)
IsOperand c (nec a) = c ≡ a
IsOperand c (poss a) = c ≡ a
IsOperand c _ = ⊥

-- c is a subformula of a: a itself, or a subformula of an operand
abbrev pub IsSubformula : Formula → Formula → Type 0
IsSubformula c (letter p) = c ≡ letter p
IsSubformula c falsum = c ≡ falsum
IsSubformula c verum = c ≡ verum
IsSubformula c (neg a) = (c ≡ neg a) ⊎ IsSubformula c a
IsSubformula c (conj a b) = (c ≡ conj a b) ⊎ (IsSubformula c a ⊎ IsSubformula c b)
IsSubformula c (disj a b) = (c ≡ disj a b) ⊎ (IsSubformula c a ⊎ IsSubformula c b)
IsSubformula c (impl a b) = (c ≡ impl a b) ⊎ (IsSubformula c a ⊎ IsSubformula c b)
IsSubformula c (equi a b) = (c ≡ equi a b) ⊎ (IsSubformula c a ⊎ IsSubformula c b)
IsSubformula c (nec a) = (c ≡ nec a) ⊎ IsSubformula c a
IsSubformula c (poss a) = (c ≡ poss a) ⊎ IsSubformula c a

-- whether two formulas are the same tree
abbrev pub same_formula : Formula → Formula → Bool
same_formula (letter p) (letter q) = bytes_eq p q
same_formula falsum falsum = true
same_formula verum verum = true
same_formula (neg a) (neg c) = same_formula a c
same_formula (conj a b) (conj c d) = same_formula a c && same_formula b d
same_formula (disj a b) (disj c d) = same_formula a c && same_formula b d
same_formula (impl a b) (impl c d) = same_formula a c && same_formula b d
same_formula (equi a b) (equi c d) = same_formula a c && same_formula b d
same_formula (nec a) (nec c) = same_formula a c
same_formula (poss a) (poss c) = same_formula a c
same_formula _ _ = false

-- the first list, and behind it what is new in the second
abbrev pub union : List Formula → List Formula → List Formula
union xs ys = xs ++ filter (λ y. not (list_any (same_formula y) xs)) ys

-- the distinct subformulas, each once, operands before the formula
abbrev pub subformulas : Formula → List Formula
subformulas (letter p) = letter p ∷ []
subformulas falsum = falsum ∷ []
subformulas verum = verum ∷ []
subformulas (neg a) = subformulas a ++ neg a ∷ []
subformulas (conj a b) = union (subformulas a) (subformulas b) ++ conj a b ∷ []
subformulas (disj a b) = union (subformulas a) (subformulas b) ++ disj a b ∷ []
subformulas (impl a b) = union (subformulas a) (subformulas b) ++ impl a b ∷ []
subformulas (equi a b) = union (subformulas a) (subformulas b) ++ equi a b ∷ []
subformulas (nec a) = subformulas a ++ nec a ∷ []
subformulas (poss a) = subformulas a ++ poss a ∷ []

-- how many distinct subformulas there are
abbrev pub subformula_count : Formula → ℕ
subformula_count a = length (subformulas a)

-- the distinct subformulas that begin with `box` or `dia`
abbrev pub modal_subformulas : Formula → List Formula
modal_subformulas a = filter is_modal (subformulas a)

-- how many distinct modal subformulas there are
abbrev pub modal_count : Formula → ℕ
modal_count a = length (modal_subformulas a)
