use Rattle.std.proofs.Common.{◌≤◌, [], ◌∷◌, refl, sym, ap, subst, ◌∙◌, arith}
use Rattle.lw_formula.specs.declared.sign.Sign.TheVariants.{F}
use Rattle.lw_formula.specs.Formula.{depth, modal_count}
use Rattle.lw_pool.specs.Region.{signed_at, tree_at}
use Rattle.lw_model.specs.Bounds.{step_bound}
use Rattle.lw_sat.specs.Sets.{among}
use Rattle.lw_s5.proofs.DecidedLabels.{kept_alike}
use Rattle.lw_s5.proofs.search.search_s5.Goals as goal

pub explore-requires-clause-alike : goal.explore-requires-clause-alike
explore-requires-clause-alike c = kept_alike c.args.pool.now c.args.closure.now c.requires.keeps

pub answer-requires-clause-fits : goal.answer-requires-clause-fits
answer-requires-clause-fits c =
    let ts = c.args.pool.now in
    let t = c.args.closure.now in
    let a = tree_at ts t.goal in
    let number = c.in-Some.ensures.there in (
      1,
      subst (λ L. 1 ≤ step_bound L (modal_count a) (depth a)) (sym c.requires.logic) (omega arith),
      (
        among (c.in-Some.item ∷ []),
        record { item = c.in-Some.item; below = number.0; signed = ap (signed_at ts) number.1 ∙ ap (λ g. (F, tree_at ts g)) c.goal.ensures; only = refl },
        c.in_ok-outcome-in-Some.ensures,
      ),
    )
