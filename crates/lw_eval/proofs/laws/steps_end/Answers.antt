use Rattle.lw_eval.proofs.RunsFollowed.{steps_over}
use Rattle.lw_eval.proofs.laws.steps_end.Goals as goal

pub returns : goal.returns
returns c = steps_over
