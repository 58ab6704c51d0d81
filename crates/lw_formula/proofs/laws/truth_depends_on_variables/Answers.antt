use Rattle.lw_formula.proofs.RevaluedModels.{IsTrueAt-agree}
use Rattle.lw_formula.proofs.laws.truth_depends_on_variables.Goals as goal

pub returns : goal.returns
returns c = IsTrueAt-agree
