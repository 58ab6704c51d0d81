use Rattle.std.proofs.Common.{arith}
use Rattle.lw_pool.specs.Region.{tree_at}
use Rattle.lw_value.specs.Views.{value_of}
use Rattle.lw_value.specs.Certified.{evidence_of}
use Rattle.lw_eval.proofs.CallsAnswered.{undecided_answer, certificate_answer, certificate_live}
use Rattle.lw_eval.proofs.deciding.certified.Goals as goal

pub returns-in_ok-shared-in-Ok-clause-value : goal.returns-in_ok-shared-in-Ok-clause-value
returns-in_ok-shared-in-Ok-clause-value c =
    certificate_answer c.args.logic (tree_at c.args.pool.now c.args.formula) c.decide.new.pool (value_of c.in_ok-shared-in-Ok.field-0) c.args.formula (evidence_of c.body_of.result)
    c.in-Ok.ensures.few c.in_ok-shared-in-Ok.ensures (c.in-Ok.ensures.grows.same c.args.formula c.requires)
    (c.body_of.ensures.shows c.args.logic c.decide.new.pool (tree_at c.args.pool.now c.args.formula) c.in-Ok.ensures.answer)

pub returns-in_ok-shared-in-Ok-clause-live : goal.returns-in_ok-shared-in-Ok-clause-live
returns-in_ok-shared-in-Ok-clause-live c =
    certificate_live c.args.logic (tree_at c.args.pool.now c.args.formula) c.decide.new.pool (value_of c.in_ok-shared-in-Ok.field-0) c.args.formula (evidence_of c.body_of.result)
    c.in_ok-shared-in-Ok.ensures (omega (arith, c.requires, c.in-Ok.ensures.grows.longer))
    (c.body_of.ensures.shows c.args.logic c.decide.new.pool (tree_at c.args.pool.now c.args.formula) c.in-Ok.ensures.answer)

pub returns-in-Err-clause-value : goal.returns-in-Err-clause-value
returns-in-Err-clause-value c =
    undecided_answer (tree_at c.args.pool.now c.args.formula) _ c.undecided.result (c.undecided.ensures c.args.pool.now c.decide.new.pool c.args.formula c.in-Err.ensures.fault)
