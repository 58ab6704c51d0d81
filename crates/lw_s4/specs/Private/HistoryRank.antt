-- Why a search in S4 or K4 ends: a step goes to a label with a ν more, or else to one whose history has a π more.
use Rattle.std.specs.Prelude.{ℕ, ◌+◌, ◌*◌, ◌^◌, Bool, true, false, not, ◌&&◌, nat_le, List}
use Rattle.lw_formula.specs.declared.logic.Logic.{Logic}
use Rattle.lw_formula.specs.declared.logic.Logic.TheVariants.{S4, K4}
use Rattle.lw_formula.specs.Formula.{Formula}
use Rattle.lw_proof.specs.System.{Set}
use Rattle.lw_closure.specs.Table.{Table, item_count}
use Rattle.lw_search.specs.Private.LabelLack.{goal_modals, nus_lacked}
use Rattle.lw_search.specs.Ranked.{Past, Ranking}
use Rattle.lw_search.specs.Step.{askers, count_below, is_asker}
use Rattle.lw_s4.specs.History.{history}

-- S4 where worlds see themselves, and else K4
abbrev pub logic_of : Bool → Logic
logic_of true = S4
logic_of false = K4

-- whether the item is a π outside the label's history
abbrev pub is_fresh : Table → List Past → Set ℕ → ℕ → Bool
is_fresh t path X i = is_asker t i && not (history t path X i)

-- how many π there are outside the label's history
abbrev pub fresh : Table → List Past → Set ℕ → ℕ
fresh t path X = count_below (is_fresh t path X) (item_count t)

-- a number for each ν that the label lacks and each π outside its history, one of the former being more than all of the latter
abbrev pub rank : Table → List Past → Set ℕ → ℕ
rank t path X = nus_lacked t X * (askers t + 1) + fresh t path X

-- so many Steps are enough above a label as its rank says
abbrev pub by_history : Ranking
by_history ts t path n X = nat_le (rank t path X) n

-- the square of one more than the goal's modal subformulas
abbrev pub square_of_modals : List Formula → Table → ℕ
square_of_modals ts t = (goal_modals ts t + 1) ^ 2
