use Rattle.std.proofs.Common.{◌≡◌}
use Rattle.lw_bisim.specs.Private.Joined.{IsJoinedTo}
use Rattle.lw_bisim.proofs.joined.joined.Given as goal

abbrev pub invariant-loop-world : goal.invariant-loop-world
invariant-loop-world l = record { end : l.world-end ≡ l.model.worlds; joined : IsJoinedTo l.model l.classes.places.items l.classes.count l.world l.joined }
