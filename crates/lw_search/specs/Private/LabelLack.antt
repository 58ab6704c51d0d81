-- What a label lacks: where each step adds some of it, so many Steps are enough.
use Rattle.std.specs.Prelude.{ℕ, Bool, not, ◌&&◌, List}
use Rattle.lw_formula.specs.Formula.{Formula, modal_count}
use Rattle.lw_pool.specs.Region.{tree_at}
use Rattle.lw_proof.specs.System.{Set}
use Rattle.lw_proof.specs.Derivation.{is_nu}
use Rattle.lw_closure.specs.Table.{Table, entry_at, item_count}
use Rattle.lw_search.specs.Step.{count_below}

-- whether the item is a ν that the label lacks
abbrev pub lacks_nu : Table → Set ℕ → ℕ → Bool
lacks_nu t X i = is_nu (entry_at t i).parts && not (X i)

-- how many ν of the closure the label lacks
abbrev pub nus_lacked : Table → Set ℕ → ℕ
nus_lacked t X = count_below (lacks_nu t X) (item_count t)

-- the number of the goal's distinct modal subformulas
abbrev pub goal_modals : List Formula → Table → ℕ
goal_modals ts t = modal_count (tree_at ts t.goal)
