use Rattle.lw_formula.proofs.TruthTest.{true_at-IsTrueAt}
use Rattle.lw_formula.proofs.laws.truths_agree.Goals as goal

pub returns : goal.returns
returns c = true_at-IsTrueAt
