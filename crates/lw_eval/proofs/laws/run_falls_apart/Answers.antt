use Rattle.lw_eval.proofs.RunsFollowed.{falls_apart}
use Rattle.lw_eval.proofs.laws.run_falls_apart.Goals as goal

pub returns : goal.returns
returns c = falls_apart
