use Rattle.lw_bisim.proofs.QuotientLaws.{quotient_smallest}
use Rattle.lw_bisim.proofs.laws.quotient_is_smallest.Goals as goal

pub returns : goal.returns
returns c = quotient_smallest
