use Rattle.std.proofs.Common.{length}
use Rattle.lw_trace.proofs.normal_form.+is_among.Given as goal

abbrev pub decreases-is_among : goal.decreases-is_among
decreases-is_among l = length l.heights.now
