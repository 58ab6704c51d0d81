use Rattle.lw_share.proofs.CountedSets.{one_count}
use Rattle.lw_share.proofs.laws.one_set_count.Goals as goal

pub returns : goal.returns
returns c = one_count
