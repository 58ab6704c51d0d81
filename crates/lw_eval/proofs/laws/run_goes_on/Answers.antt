use Rattle.lw_eval.proofs.RunsFollowed.{goes_on}
use Rattle.lw_eval.proofs.laws.run_goes_on.Goals as goal

pub returns : goal.returns
returns c = goes_on
