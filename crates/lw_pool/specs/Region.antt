-- A region of formulas: a list in which each formula stands once, behind its operands. An id is a place in it.
use Rattle.std.specs.Prelude.{◌≡◌, ℕ, ◌+◌, ◌<◌, ◌≤◌, ◌⊎◌, Bool, true, false, Option, Some, None, AllPairs, Contains, ◌↔◌, List, [], ◌∷◌, ◌++◌, length, ⊤}
use Rattle.std.specs.List.{slice_index_or}
use Rattle.lw_formula.specs.declared.parts.Parts.{Parts}
use Rattle.lw_formula.specs.declared.parts.Parts.TheVariants.{Nothing, One, Two, Nu, Pi}
use Rattle.lw_formula.specs.Formula.{Formula, letter, falsum, verum, neg, conj, disj, impl, equi, nec, poss, IsOperand, IsSubformula}
use Rattle.lw_formula.specs.Signed.{Signed}
use Rattle.lw_formula.specs.Variables.{HasNames}
use Rattle.lw_pool.specs.declared.id.FormId.{FormId}
use Rattle.lw_pool.specs.declared.id.SignedId.{SignedId}
use Rattle.lw_pool.specs.declared.node.Node.{Node}
use Rattle.lw_pool.specs.declared.node.Node.TheVariants.{Var, Bot, Top, Not, And, Or, Imp, Iff, Nec, Poss}

-- the formula at the id
abbrev pub tree_at : List Formula → FormId → Formula
tree_at ts a = slice_index_or ts a.0 falsum

-- the list has the id
abbrev pub IsLive : List Formula → FormId → Type 0
IsLive ts a = a.0 < length ts

-- the id is the list's id of the formula
abbrev pub IsAt : List Formula → Formula → FormId → Type 0
IsAt ts t a = IsLive ts a × (tree_at ts a ≡ t)

-- the formula stands nowhere in the list
abbrev pub IsAbsent : List Formula → Formula → Type 0
IsAbsent ts t = ¬ Contains ts t

-- the signed formula of a signed id
abbrev pub signed_at : List Formula → SignedId → Signed
signed_at ts s = (s.sign, tree_at ts s.form)

-- the letters of each formula are names
abbrev pub AreNamed : List Formula → Type 0
AreNamed ts = (a : FormId) → IsLive ts a → HasNames (tree_at ts a)

-- ids that differ have formulas that differ
abbrev pub AreIdsExact : List Formula → Type 0
AreIdsExact ts = (a b : FormId) → IsLive ts a → IsLive ts b → tree_at ts a ≡ tree_at ts b → a ≡ b

-- each operand of a formula stands below it
abbrev pub AreOperandsBelow : List Formula → Type 0
AreOperandsBelow ts =
    (a : FormId) → IsLive ts a → (c : Formula) → IsOperand c (tree_at ts a) →
    (b : FormId) × (b.0 < a.0) × (tree_at ts b ≡ c)

-- the node's children are below n
abbrev pub AreChildrenBelow : ℕ → Node → Type 0
AreChildrenBelow n (Var p) = ⊤
AreChildrenBelow n Bot = ⊤
AreChildrenBelow n Top = ⊤
AreChildrenBelow n (Not a) = a.0 < n
AreChildrenBelow n (And a b) = (a.0 < n) × (b.0 < n)
AreChildrenBelow n (Or a b) = (a.0 < n) × (b.0 < n)
AreChildrenBelow n (Imp a b) = (a.0 < n) × (b.0 < n)
AreChildrenBelow n (Iff a b) = (a.0 < n) × (b.0 < n)
AreChildrenBelow n (Nec a) = a.0 < n
AreChildrenBelow n (Poss a) = a.0 < n

-- the formula that the node makes of its children's formulas
abbrev pub tree_of_node : List Formula → Node → Formula
tree_of_node ts (Var p) = letter p
tree_of_node ts Bot = falsum
tree_of_node ts Top = verum
tree_of_node ts (Not a) = neg (tree_at ts a)
tree_of_node ts (And a b) = conj (tree_at ts a) (tree_at ts b)
tree_of_node ts (Or a b) = disj (tree_at ts a) (tree_at ts b)
tree_of_node ts (Imp a b) = impl (tree_at ts a) (tree_at ts b)
tree_of_node ts (Iff a b) = equi (tree_at ts a) (tree_at ts b)
tree_of_node ts (Nec a) = nec (tree_at ts a)
tree_of_node ts (Poss a) = poss (tree_at ts a)

-- older ids keep their formulas, and there may be new ones above
pub record Grows (old new : List Formula) : Type 0 where
  pub longer : length old ≤ length new
  pub same : (a : FormId) → IsLive old a → tree_at new a ≡ tree_at old a

-- the formula's id is found and the list stays, or the formula is put at the list's end
abbrev pub IsMade : List Formula → List Formula → Formula → FormId → Type 0
IsMade old new t a =
    ((a.0 < length old) × (new ≡ old) × (tree_at old a ≡ t)) ⊎
    ((a.0 ≡ length old) × (new ≡ old ++ t ∷ []))

-- the signed formulas of a first and perhaps a second id
abbrev pub both_at : List Formula → SignedId × Option SignedId → Signed × Option Signed
both_at ts (a, None) = (signed_at ts a, None)
both_at ts (a, Some b) = (signed_at ts a, Some (signed_at ts b))

-- the signed formulas of components that are given by ids
abbrev pub parts_at : List Formula → Parts SignedId → Parts Signed
parts_at ts Nothing = Nothing
parts_at ts (One a b) = One (both_at ts (a, b)).0 (both_at ts (a, b)).1
parts_at ts (Two p q) = Two (both_at ts p) (both_at ts q)
parts_at ts (Nu a) = Nu (signed_at ts a)
parts_at ts (Pi a) = Pi (signed_at ts a)

-- the ids of a first and perhaps a second component are below n
abbrev pub AreBothBelow : ℕ → SignedId × Option SignedId → Type 0
AreBothBelow n (a, None) = a.form.0 < n
AreBothBelow n (a, Some b) = (a.form.0 < n) × (b.form.0 < n)

-- the ids of the components are below n
abbrev pub ArePartsBelow : ℕ → Parts SignedId → Type 0
ArePartsBelow n Nothing = ⊤
ArePartsBelow n (One a b) = AreBothBelow n (a, b)
ArePartsBelow n (Two p q) = AreBothBelow n p × AreBothBelow n q
ArePartsBelow n (Nu a) = a.form.0 < n
ArePartsBelow n (Pi a) = a.form.0 < n

-- the ids are those of the subformulas of the formula at a, each once, ascending
pub record AreSubformulas (ts : List Formula) (a : FormId) (ids : List FormId) : Type 0 where
  pub ascending : AllPairs (λ b c. b.0 < c.0) ids
  pub exact : (b : FormId) → Contains ids b ↔ (IsLive ts b × IsSubformula (tree_at ts b) (tree_at ts a))
  pub each : (c : Formula) → IsSubformula c (tree_at ts a) →
      (b : FormId) × Contains ids b × (tree_at ts b ≡ c)

-- whether the place is marked
abbrev pub is_marked : List Bool → ℕ → Bool
is_marked marks k = slice_index_or marks k false

-- a mark for each id up to a, at the ids of the subformulas of the formula at a
pub record AreMarks (ts : List Formula) (a : FormId) (marks : List Bool) : Type 0 where
  pub long : length marks ≡ a.0 + 1
  pub sound : (b : FormId) → is_marked marks b.0 ≡ true → IsSubformula (tree_at ts b) (tree_at ts a)
  pub complete : (b : FormId) → IsLive ts b → IsSubformula (tree_at ts b) (tree_at ts a) →
      is_marked marks b.0 ≡ true
