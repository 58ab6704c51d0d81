use Rattle.std.proofs.Common.{ap, sym, subst, ◌∙◌}
use Rattle.std.specs.List.{slice_get}
use Rattle.lw_pool.specs.Region.{tree_at}
use Rattle.lw_trace.specs.TraceFaults.{IsFirstVariable}
use Rattle.lw_trace.proofs.FirstVariables.{first-IsFirstVariable, none-IsLetterless}
use Rattle.lw_trace.proofs.tracing.check_letterless.Goals as goal

pub returns-in-Some-clause-refused : goal.returns-in-Some-clause-refused
returns-in-Some-clause-refused c =
    let a = tree_at c.args.pool.now c.args.id in
    subst (λ p. IsFirstVariable p a) (sym c.in_ok-try_clone-in-Some.ensures)
    (first-IsFirstVariable a c.in_ok-names.names.items c.in-Some.name.now c.in_ok-names.ensures
    (c.in-Some.ensures.value ∙ ap (λ names. slice_get names 0) c.deref.ensures.value))

pub returns-clause-letterless : goal.returns-clause-letterless
returns-clause-letterless c =
    none-IsLetterless (tree_at c.args.pool.now c.args.id) c.in_ok-names.names.items c.in_ok-names.ensures
    (c.in-None.ensures.value ∙ ap (λ names. slice_get names 0) c.deref.ensures.value)
