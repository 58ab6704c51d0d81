use Rattle.std.proofs.Common.{ap, map, ◌∙◌}
use Rattle.std.proofs.lemmas.List.{take_all}
use Rattle.std.proofs.lemmas.List.Filters.{dedup_is}
use Rattle.std.proofs.lemmas.Map.Keys.{IsStrictlyIncreasing-dedup, sorted_from_strictly_increasing}
use Rattle.lw_bisim.specs.Quotient.{place_of}
use Rattle.lw_bisim.proofs.SeenClasses.{seen_classes-exact}
use Rattle.lw_bisim.proofs.rounds.seen_classes.Goals as goal

pub returns-clause-exact : goal.returns-clause-exact
returns-clause-exact c =
    seen_classes-exact c.args.places.now c.args.worlds.now c.loop-world.seen.items _ _
    (c.loop-world.invariant ∙ ap (map (place_of c.args.places.now)) (take_all c.loop-world.world-index c.args.worlds.now c.loop-world-test.false))
    c.sort_unstable.ensures.permutation (dedup_is _ _ _ c.dedup.ensures.filtered)

pub returns-clause-ordered : goal.returns-clause-ordered
returns-clause-ordered c =
    sorted_from_strictly_increasing _
    (rw (dedup_is _ _ _ c.dedup.ensures.filtered) (IsStrictlyIncreasing-dedup _ c.sort_unstable.ensures.sorted))
