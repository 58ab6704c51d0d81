use Rattle.lw_bisim.proofs.OneQuotient.{one_quotient}
use Rattle.lw_bisim.proofs.laws.quotient_is_one.Goals as goal

pub returns : goal.returns
returns c = one_quotient
