-- What the loop of a search comes to makes an answer.
use Rattle.std.proofs.Common.{ℕ, ◌≤◌, List, arith}
use Rattle.lw_formula.specs.FiniteModel.{FiniteModel}
use Rattle.lw_formula.specs.Formula.{Formula, depth, modal_count}
use Rattle.lw_pool.specs.declared.id.SignedId.{SignedId}
use Rattle.lw_pool.specs.Region.{tree_at}
use Rattle.lw_model.specs.Bounds.{step_bound}
use Rattle.lw_model.proofs.BoundGrowth.{step_bound_small}
use Rattle.lw_proof.specs.Tree.{Tree}
use Rattle.lw_closure.specs.Table.{Table}
use Rattle.lw_closure.specs.Keeps.{Keeps}
use Rattle.lw_counter.specs.Fragment.{Fragment, formulas_of}
use Rattle.lw_counter.specs.Countermodel.{IsModelOf}
use Rattle.lw_counter.specs.Answers.{IsAnswerTo}
use Rattle.lw_counter.specs.declared.answer.Answer.TheVariants.{Yes, No}
use Rattle.lw_search.specs.declared.outcome.Outcome.TheVariants.{Closed, Open}
use Rattle.lw_search.specs.Outcome.{OutcomeFits}
use Rattle.lw_search.proofs.DepthBound.{depth_few}
use Rattle.lw_search.proofs.LeanGoals.{closes_lean}
use Rattle.lw_search.proofs.ExploredModels.{explored_answers}

module _ (ts : List Formula) (t : Table) (keeps : Keeps ts t) (n : ℕ) (few : n ≤ step_bound t.logic (modal_count (tree_at ts t.goal)) (depth (tree_at ts t.goal))) where
  abbrev goal : Formula
  goal = tree_at ts t.goal

  -- a proof that closes the goal's item
  pub closed_answers : (p : Tree SignedId) → OutcomeFits ts t n (Closed p) → IsAnswerTo t.logic ts goal (Yes p)
  closed_answers p fits =
      closes_lean ts t keeps fits.0 p fits.1 fits.2.0 (omega (arith, fits.2.1, few, step_bound_small t.logic (modal_count goal) (depth goal) (depth_few goal)))

  -- the model of a fragment that was explored from it
  pub open_answers : (f : Fragment) (m : FiniteModel) → OutcomeFits ts t n (Open f) → IsModelOf t.logic f (formulas_of ts t f) m → IsAnswerTo t.logic ts goal (No m 0)
  open_answers f m fits is = explored_answers ts t keeps n fits.0 f fits.1 fits.2 m is few
