use Rattle.std.proofs.Common.{length}
use Rattle.lw_cert.specs.Private.RowReading.{HasNamed}
use Rattle.lw_cert.proofs.row.read_names.Given as goal

abbrev pub invariant-loop-word : goal.invariant-loop-word
invariant-loop-word l = HasNamed l.world l.bytes l.rest l.last l.fn.model l.model

abbrev pub decreases-loop-word : goal.decreases-loop-word
decreases-loop-word l = length l.rest
