use Rattle.std.proofs.Common.{◌+◌, ◌≤◌, length}
use Rattle.lw_cert.specs.Lines.{pieces}
use Rattle.lw_cert.specs.Private.StageViews.{Reached}
use Rattle.lw_pool.specs.Region.{Grows}
use Rattle.lw_cert.proofs.reader.read_certificate.Given as goal

abbrev pub invariant-loop-line : goal.invariant-loop-line
invariant-loop-line l =
    (l.at + length l.rest ≤ length l.text) × Reached (pieces l.text) l.at (pieces l.rest) l.pool l.stage × Grows l.fn.pool l.pool

abbrev pub decreases-loop-line : goal.decreases-loop-line
decreases-loop-line l = length l.rest
