-- How a pool's nodes are a region: for the view and the invariant of `Pool` alone.
use Rattle.std.specs.Prelude.{ℕ, ◌+◌, List, [], ◌∷◌, ◌++◌, ⊤, IsTrue}
use Rattle.lw_formula.specs.FiniteModel.{AreDistinct}
use Rattle.lw_formula.specs.Formula.{Formula}
use Rattle.lw_formula.specs.Name.{is_name}
use Rattle.lw_pool.specs.declared.node.Node.{Node}
use Rattle.lw_pool.specs.declared.node.Node.TheVariants.{Var, Bot, Top, Not, And, Or, Imp, Iff, Nec, Poss}
use Rattle.lw_pool.specs.Region.{AreChildrenBelow, AreNamed, tree_of_node}

-- the formulas so far, and behind them the nodes'
abbrev pub trees_from : List Formula → List Node → List Formula
trees_from ts [] = ts
trees_from ts (n ∷ ns) = trees_from (ts ++ tree_of_node ts n ∷ []) ns

-- the formulas of the nodes
abbrev pub trees : List Node → List Formula
trees ns = trees_from [] ns

-- each node's children stand before it, where k nodes stand before the first
abbrev pub AreOrderedFrom : ℕ → List Node → Type 0
AreOrderedFrom k [] = ⊤
AreOrderedFrom k (n ∷ ns) = AreChildrenBelow k n × AreOrderedFrom (k + 1) ns

-- the node's own letter, if it is one, is a name
abbrev pub IsNamed : Node → Type 0
IsNamed (Var p) = IsTrue (is_name p)
IsNamed Bot = ⊤
IsNamed Top = ⊤
IsNamed (Not a) = ⊤
IsNamed (And a b) = ⊤
IsNamed (Or a b) = ⊤
IsNamed (Imp a b) = ⊤
IsNamed (Iff a b) = ⊤
IsNamed (Nec a) = ⊤
IsNamed (Poss a) = ⊤

-- children stand before their parents, no two nodes have one formula, and all letters are names
pub record IsRegion (ns : List Node) : Type 0 where
  pub ordered : AreOrderedFrom 0 ns
  pub distinct : AreDistinct (trees ns)
  pub named : AreNamed (trees ns)
