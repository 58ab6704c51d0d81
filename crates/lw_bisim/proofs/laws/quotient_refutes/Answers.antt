use Rattle.lw_bisim.proofs.QuotientLaws.{refutation_kept}
use Rattle.lw_bisim.proofs.laws.quotient_refutes.Goals as goal

pub returns : goal.returns
returns c = refutation_kept
