use Rattle.lw_trace.proofs.TraceTruth.{true_by_height}
use Rattle.lw_trace.proofs.laws.truth_goes_by_height.Goals as goal

pub returns : goal.returns
returns c = λ m class a free w l. let told = true_by_height m class a free w in (told.1, told.0)
