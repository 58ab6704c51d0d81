use Rattle.std.proofs.Common.{◌≤◌, sym, subst}
use Rattle.lw_formula.specs.Formula.{depth, modal_count}
use Rattle.lw_pool.specs.Region.{tree_at}
use Rattle.lw_model.specs.Bounds.{step_bound}
use Rattle.lw_search.proofs.searching.search.Goals as goal

pub answer-requires-clause-fits : goal.answer-requires-clause-fits
answer-requires-clause-fits g c =
    let ts = c.args.pool.now in
    let t = c.args.closure.now in
    let bound = g.R.StepRule.bound ts t in
    let formula = tree_at ts t.goal in (
      bound,
      subst (λ L. bound ≤ step_bound L (modal_count formula) (depth formula)) (sym c.requires.logic) (c.requires.ranked.few ts t (record { logic = c.requires.logic; keeps = c.requires.keeps })),
      c.in_ok-outcome.ensures,
    )
