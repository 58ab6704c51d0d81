-- What the loop of a search comes to.
use Rattle.std.specs.Prelude.{ℕ, ◌≤◌, List}
use Rattle.lw_formula.specs.Formula.{Formula, depth, modal_count}
use Rattle.lw_pool.specs.Region.{tree_at}
use Rattle.lw_model.specs.Bounds.{step_bound}
use Rattle.lw_proof.specs.System.{Set}
use Rattle.lw_proof.specs.Lean.{steps}
use Rattle.lw_closure.specs.Table.{Table}
use Rattle.lw_sat.specs.Closing.{Closes}
use Rattle.lw_search.specs.declared.outcome.Outcome.{Outcome}
use Rattle.lw_search.specs.declared.outcome.Outcome.TheVariants.{Closed, Open}
use Rattle.lw_search.specs.Explored.{IsExplored}
use Rattle.lw_search.specs.Ranked.{IsGoal}

-- the outcome for the set X: a proof that closes it, with at most n Steps on a path, or an open fragment that was explored from it in n steps
abbrev pub IsOutcome : Table → ℕ → Set ℕ → Outcome → Type 0
IsOutcome t n X (Closed p) = Closes t X p × (steps p ≤ n)
IsOutcome t n X (Open f) = IsExplored t n X f

-- the outcome for the goal of the closure, whose formulas a pool with the formulas ts has kept
abbrev pub OutcomeFits : List Formula → Table → ℕ → Outcome → Type 0
OutcomeFits ts t n outcome = (X : Set ℕ) × IsGoal ts t X × IsOutcome t n X outcome

-- the same, in no more steps than the bound of the goal
abbrev pub BoundedOutcomeFits : List Formula → Table → Outcome → Type 0
BoundedOutcomeFits ts t outcome =
    (n : ℕ) × (n ≤ step_bound t.logic (modal_count (tree_at ts t.goal)) (depth (tree_at ts t.goal))) × OutcomeFits ts t n outcome
