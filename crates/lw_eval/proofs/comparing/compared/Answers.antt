use Rattle.lw_eval.specs.Private.Given.{shown_in}
use Rattle.lw_eval.proofs.ValuesCompared.{says_equal, says_unequal, equal_fails, unequal_fails}
use Rattle.lw_eval.proofs.comparing.compared.Goals as goal

pub returns-in-Ok-clause-value : goal.returns-in-Ok-clause-value
returns-in-Ok-clause-value c = says_equal c.args.relation (shown_in c.args.pool.now c.args.operands.now.0) (shown_in c.args.pool.now c.args.operands.now.1) _ c.in-Equal.is c.in-Ok.ensures.equal

pub returns-in-Err-clause-value : goal.returns-in-Err-clause-value
returns-in-Err-clause-value c = equal_fails c.args.relation (shown_in c.args.pool.now c.args.operands.now.0) (shown_in c.args.pool.now c.args.operands.now.1) c.in-Err.fault c.in-Equal.is c.in-Err.ensures.fault

pub returns-in-Ok-is_equal-clause-value : goal.returns-in-Ok-is_equal-clause-value
returns-in-Ok-is_equal-clause-value c = says_unequal c.args.relation (shown_in c.args.pool.now c.args.operands.now.0) (shown_in c.args.pool.now c.args.operands.now.1) _ c.in-Unequal.is c.in-Ok-is_equal.ensures.unequal

pub returns-in-Err-is_equal-clause-value : goal.returns-in-Err-is_equal-clause-value
returns-in-Err-is_equal-clause-value c = unequal_fails c.args.relation (shown_in c.args.pool.now c.args.operands.now.0) (shown_in c.args.pool.now c.args.operands.now.1) c.in-Err-is_equal.fault c.in-Unequal.is c.in-Err-is_equal.ensures.fault
