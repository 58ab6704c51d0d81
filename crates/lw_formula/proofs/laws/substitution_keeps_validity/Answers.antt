use Rattle.lw_formula.proofs.RevaluedModels.{Valid-replace}
use Rattle.lw_formula.proofs.laws.substitution_keeps_validity.Goals as goal

pub returns : goal.returns
returns c = Valid-replace
