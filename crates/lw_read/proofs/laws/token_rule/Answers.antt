use Rattle.lw_read.proofs.TokensByRule.{rule, only}
use Rattle.lw_read.proofs.laws.token_rule.Goals as goal

pub returns-clause-rule : goal.returns-clause-rule
returns-clause-rule c = rule

pub returns-clause-only : goal.returns-clause-only
returns-clause-only c = only
