use Rattle.lw_share.specs.Pooled.{IsTableLive}
use Rattle.lw_cases.proofs.tables.widened.Given as goal

-- the pool has each id of the lines so far
abbrev pub invariant-loop-line : goal.invariant-loop-line
invariant-loop-line l = IsTableLive l.pool l.wider
