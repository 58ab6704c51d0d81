use Rattle.lw_pool.specs.Region.{tree_at}
use Rattle.lw_eval.proofs.TracesGiven.{form_gives, untraced_faults}
use Rattle.lw_eval.proofs.tracing.normal_form.Goals as goal

pub returns-in-Ok-clause-value : goal.returns-in-Ok-clause-value
returns-in-Ok-clause-value c =
    form_gives (tree_at c.args.pool.now c.args.id) (tree_at c.letterless.new.pool c.in-Ok.form) c.in-Ok.ensures.at.1 c.in-Ok.ensures.allowed.0 c.in-Ok.ensures.allowed.1

pub returns-in-Err-clause-value : goal.returns-in-Err-clause-value
returns-in-Err-clause-value c =
    untraced_faults (tree_at c.args.pool.now c.args.id) _ c.untraced.result (c.untraced.ensures (tree_at c.args.pool.now c.args.id) c.in-Err.ensures.refused)
