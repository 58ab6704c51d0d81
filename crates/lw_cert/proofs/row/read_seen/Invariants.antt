use Rattle.std.proofs.Common.{length}
use Rattle.lw_cert.specs.Private.RowReading.{HasPassed}
use Rattle.lw_cert.proofs.row.read_seen.Given as goal

abbrev pub invariant-loop-word : goal.invariant-loop-word
invariant-loop-word l = HasPassed l.world l.bytes l.rest l.least l.fn.model l.model

abbrev pub decreases-loop-word : goal.decreases-loop-word
decreases-loop-word l = length l.rest
