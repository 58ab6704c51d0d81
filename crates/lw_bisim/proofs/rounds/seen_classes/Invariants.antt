use Rattle.std.proofs.Common.{◌≡◌, map, take}
use Rattle.lw_bisim.specs.Quotient.{place_of}
use Rattle.lw_bisim.proofs.rounds.seen_classes.Given as goal

abbrev pub invariant-loop-world : goal.invariant-loop-world
invariant-loop-world l = l.seen.items ≡ map (place_of l.places) (take l.world-index l.worlds)
