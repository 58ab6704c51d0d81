use Rattle.std.proofs.Common.{◌∙◌, sym, ap}
use Rattle.lw_value.specs.Views.{value_of}
use Rattle.lw_eval.proofs.SetsCounted.{proof_shows, proof_live, proof_shares, model_shares}
use Rattle.lw_eval.proofs.sharing.sizes.Goals as goal

pub set_count-requires-clause-proof : goal.set_count-requires-clause-proof
set_count-requires-clause-proof c =
    (proof_live c.args.pool.now c.args.certificate.now c.in-Certificate.whole.value c.in-Proved.proof (ap value_of c.in-Certificate.is) (ap (λ x. x.body) (sym c.deref.ensures) ∙ c.in-Proved.is)
    c.requires.certificate)

pub set_count-requires-clause-proves : goal.set_count-requires-clause-proves
set_count-requires-clause-proves c =
    proof_shows c.args.pool.now c.args.certificate.now c.in-Certificate.whole.value c.in-Proved.proof c.deref-in-Proved.result.now.logic c.deref-in-Proved-2.result.now.formula
    (ap value_of c.in-Certificate.is) (ap (λ x. x.body) (sym c.deref.ensures) ∙ c.in-Proved.is) (ap (λ x. x.logic) c.deref-in-Proved.ensures) (ap (λ x. x.formula) c.deref-in-Proved-2.ensures)
    c.requires.evidence

pub returns-in_ok-two_numbers-in-Proved-clause-value : goal.returns-in_ok-two_numbers-in-Proved-clause-value
returns-in_ok-two_numbers-in-Proved-clause-value c =
    proof_shares c.args.pool.now c.set_count.new.pool c.args.certificate.now c.in-Certificate.whole.value c.in-Proved.proof c.deref-in-Proved.result.now.logic
    c.deref-in-Proved-2.result.now.formula c.lines.result c.in_ok-sets-in-Proved.sets c.in_ok-two_numbers-in-Proved.field-0
    (ap value_of c.in-Certificate.is) (ap (λ x. x.body) (sym c.deref.ensures) ∙ c.in-Proved.is) (ap (λ x. x.logic) c.deref-in-Proved.ensures) (ap (λ x. x.formula) c.deref-in-Proved-2.ensures)
    c.lines.ensures c.in_ok-sets-in-Proved.ensures.sets c.in_ok-two_numbers-in-Proved.ensures

pub returns-in-Refuted-clause-value : goal.returns-in-Refuted-clause-value
returns-in-Refuted-clause-value c =
    model_shares c.args.pool.now c.args.certificate.now c.in-Certificate.whole.value c.in-Refuted.field-0 c.in-Refuted.field-1 (ap value_of c.in-Certificate.is)
    (ap (λ x. x.body) (sym c.deref.ensures) ∙ c.in-Refuted.is)
