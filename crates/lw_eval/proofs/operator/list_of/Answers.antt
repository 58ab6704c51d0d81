use Rattle.lw_value.specs.Values.{vals}
use Rattle.lw_eval.proofs.WeightsSeen.{light, heavy}
use Rattle.lw_eval.proofs.operator.list_of.Goals as goal

pub returns-then-weight-gt-WEIGHT_LIMIT-clause-value : goal.returns-then-weight-gt-WEIGHT_LIMIT-clause-value
returns-then-weight-gt-WEIGHT_LIMIT-clause-value c = λ ts. heavy ts (vals c.args.items) c.weight.result c.weight.ensures c.if-weight-gt-WEIGHT_LIMIT.true

pub returns-clause-value : goal.returns-clause-value
returns-clause-value c = λ ts. light ts (vals c.args.items) c.weight.result c.weight.ensures c.if-weight-gt-WEIGHT_LIMIT.false
