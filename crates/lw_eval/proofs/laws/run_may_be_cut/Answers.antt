use Rattle.lw_eval.proofs.RunsFollowed.{may_be_cut}
use Rattle.lw_eval.proofs.laws.run_may_be_cut.Goals as goal

pub returns : goal.returns
returns c = may_be_cut
