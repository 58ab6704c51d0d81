use Rattle.std.proofs.Common.{◌∙◌, sym, ap}
use Rattle.lw_value.specs.Views.{value_of}
use Rattle.lw_eval.proofs.ModelsShrunk.{proof_stays, model_shrinks}
use Rattle.lw_eval.proofs.shrinking.smallest.Goals as goal

pub returns-in_ok-try_clone-in-Proved-clause-value : goal.returns-in_ok-try_clone-in-Proved-clause-value
returns-in_ok-try_clone-in-Proved-clause-value c =
    proof_stays c.args.pool.now c.args.certificate.now c.in_ok-try_clone-in-Proved.field-0 c.in-Certificate.whole.value c.in-Proved.field-0 (ap value_of c.in-Certificate.is)
    (ap (λ x. x.body) (sym c.deref.ensures) ∙ c.in-Proved.is) c.in_ok-try_clone-in-Proved.ensures

pub returns-in_ok-with_quotient-in-Refuted-clause-value : goal.returns-in_ok-with_quotient-in-Refuted-clause-value
returns-in_ok-with_quotient-in-Refuted-clause-value c =
    model_shrinks c.args.pool.now c.args.certificate.now c.in_ok-with_quotient-in-Refuted.field-0 c.in-Certificate.whole.value c.deref-in-Refuted.result.now.logic c.deref-in-Refuted-2.result.now.formula
    c.in-Refuted.model c.in-Refuted.world c.in_ok-with_quotient-in-Refuted.ensures.0 (ap value_of c.in-Certificate.is) (ap (λ x. x.body) (sym c.deref.ensures) ∙ c.in-Refuted.is)
    (ap (λ x. x.logic) c.deref-in-Refuted.ensures) (ap (λ x. x.formula) c.deref-in-Refuted-2.ensures)
    c.in_ok-with_quotient-in-Refuted.ensures.1 c.in_ok-with_quotient-in-Refuted.ensures.2
