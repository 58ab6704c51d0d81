use Rattle.lw_trace.proofs.WorldHeights.{height-AreHeights}
use Rattle.lw_trace.proofs.laws.heights_are_exact.Goals as goal

pub returns : goal.returns
returns c = height-AreHeights
