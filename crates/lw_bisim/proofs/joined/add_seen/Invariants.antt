use Rattle.std.proofs.Common.{take}
use Rattle.lw_bisim.specs.Private.Joined.{AddsSeen}
use Rattle.lw_bisim.proofs.joined.add_seen.Given as goal

abbrev pub invariant-loop-world : goal.invariant-loop-world
invariant-loop-world l = record { added : AddsSeen l.places l.fn.joined l.class (take l.world-index l.seen) l.joined }
