use Rattle.lw_eval.proofs.TroublesAtLines.{given_next, given_fault}
use Rattle.lw_eval.proofs.at_line.list_at.Goals as goal

pub returns-in-Ok-clause-value : goal.returns-in-Ok-clause-value
returns-in-Ok-clause-value c = given_next c.args.line _ _ _ _ c.items.result c.in-Ok.ensures.value (c.items.ensures.list c.eval.new.pool)

pub returns-in-Err-clause-value : goal.returns-in-Err-clause-value
returns-in-Err-clause-value c = given_fault c.args.line _ _ _ _ c.in-Err.ensures.value c.at_line.ensures
