use Rattle.lw_bisim.proofs.QuotientLaws.{bisimilar_agree}
use Rattle.lw_bisim.proofs.laws.bisimilar_worlds_agree.Goals as goal

pub returns : goal.returns
returns c = bisimilar_agree
