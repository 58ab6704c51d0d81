use Rattle.std.proofs.Common.{◌≡◌, drop}
use Rattle.std.specs.Ordering.{nat_cmp}
use Rattle.std.specs.FinMap.{get, find}
use Rattle.lw_io.specs.Private.MapEntries.{keeps_of}
use Rattle.lw_io.proofs.memory_sink.keep_at.Given as goal

-- what remains has what the whole list has for the call
abbrev pub invariant-loop-number : goal.invariant-loop-number
invariant-loop-number l = get (keeps_of l.listed) l.call ≡ find nat_cmp l.call (drop l.number-index l.listed)
