-- Why a search in K, KT or KD ends: a step goes to formulas of a smaller modal depth.
use Rattle.std.specs.Prelude.{ℕ, Bool, true, false, not, ◌&&◌, nat_lt, List}
use Rattle.lw_formula.specs.declared.logic.Logic.{Logic}
use Rattle.lw_formula.specs.declared.logic.Logic.TheVariants.{K, KT, KD}
use Rattle.lw_formula.specs.Formula.{Formula, depth}
use Rattle.lw_pool.specs.Region.{tree_at}
use Rattle.lw_proof.specs.System.{Set}
use Rattle.lw_closure.specs.Table.{Table, item_count, signed_of}
use Rattle.lw_closure.specs.Items.{any_below}
use Rattle.lw_search.specs.Ranked.{Ranking}

-- KT where worlds see themselves, else KD where each sees one, and else K
abbrev pub logic_of : Bool → Bool → Logic
logic_of true serial = KT
logic_of false true = KD
logic_of false false = K

-- the modal depth of the item's formula
abbrev pub item_depth : List Formula → Table → ℕ → ℕ
item_depth ts t i = depth (signed_of ts t i).1

-- whether no item of the label is deeper than n
abbrev pub is_shallow : List Formula → Table → ℕ → Set ℕ → Bool
is_shallow ts t n X = not (any_below (λ i. X i && nat_lt n (item_depth ts t i)) (item_count t))

-- so many Steps are enough above a label as its deepest item is deep
abbrev pub by_depth : Ranking
by_depth ts t path n X = is_shallow ts t n X

-- the modal depth of the goal
abbrev pub goal_depth : List Formula → Table → ℕ
goal_depth ts t = depth (tree_at ts t.goal)
