use Rattle.lw_bisim.proofs.QuotientLaws.{worlds_differ}
use Rattle.lw_bisim.proofs.laws.quotient_worlds_differ.Goals as goal

pub returns : goal.returns
returns c = worlds_differ
