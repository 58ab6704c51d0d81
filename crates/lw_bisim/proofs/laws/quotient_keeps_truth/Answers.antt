use Rattle.lw_bisim.proofs.QuotientLaws.{truth_kept}
use Rattle.lw_bisim.proofs.laws.quotient_keeps_truth.Goals as goal

pub returns : goal.returns
returns c = truth_kept
