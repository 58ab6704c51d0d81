-- What the steps of the walks over a pool's ids say to each other.
use Rattle.std.specs.Prelude.{◌≡◌, ◌↔◌, Contains, ℕ, ◌⊎◌, Bool, true, List, slice_set as set}
use Rattle.lw_formula.specs.Variables.{AreInByteOrder}
use Rattle.lw_pool.specs.declared.node.Node.{Node}
use Rattle.lw_pool.specs.declared.node.Node.TheVariants.{Var, Not, And, Or, Imp, Iff, Nec, Poss}

-- the marks, and those at the node's children
abbrev pub with_children : Node → List Bool → List Bool
with_children (Not a) marks = set marks a.0 true
with_children (And a b) marks = set (set marks a.0 true) b.0 true
with_children (Or a b) marks = set (set marks a.0 true) b.0 true
with_children (Imp a b) marks = set (set marks a.0 true) b.0 true
with_children (Iff a b) marks = set (set marks a.0 true) b.0 true
with_children (Nec a) marks = set marks a.0 true
with_children (Poss a) marks = set marks a.0 true
with_children _ marks = marks

-- the node is the variable p
abbrev pub IsVariable : List ℕ → Node → Type 0
IsVariable p (Var q) = p ≡ q
IsVariable p _ = ⊥

-- the new names are the old ones and the node's own if it is a variable, in byte order
pub record AddsOwnName (n : Node) (old new : List (List ℕ)) : Type 0 where
  pub names : (p : List ℕ) → Contains new p ↔ (Contains old p ⊎ IsVariable p n)
  pub ordered : AreInByteOrder new
