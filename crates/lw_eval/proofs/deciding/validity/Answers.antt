use Rattle.lw_pool.specs.Region.{tree_at}
use Rattle.lw_eval.specs.Calls.{Decided}
use Rattle.lw_eval.proofs.CallsAnswered.{undecided_answer}
use Rattle.lw_eval.proofs.deciding.validity.Goals as goal

pub returns-in-Ok-clause-value : goal.returns-in-Ok-clause-value
returns-in-Ok-clause-value c = Decided.decided c.in-Ok.ensures.few (c.is_yes.ensures c.args.logic (tree_at c.args.pool.now c.args.formula) c.in-Ok.ensures.validity)

pub returns-in-Err-clause-value : goal.returns-in-Err-clause-value
returns-in-Err-clause-value c =
    undecided_answer (tree_at c.args.pool.now c.args.formula) _ c.undecided.result (c.undecided.ensures c.args.pool.now c.decide.new.pool c.args.formula c.in-Err.ensures.fault)
