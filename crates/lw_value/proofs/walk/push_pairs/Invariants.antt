use Rattle.std.proofs.Common.{◌≡◌, ◌++◌}
use Rattle.lw_value.specs.Views.{values_of}
use Rattle.lw_value.specs.Private.Likeness.{pairs_under, pairs_in}
use Rattle.lw_value.proofs.walk.push_pairs.Given as goal

-- the pairs that are there with those that are still to come are all of them
abbrev pub invariant-loop-pair : goal.invariant-loop-pair
invariant-loop-pair l = pairs_under l.pairs.items ++ pairs_in (values_of l.pair-iterator.a.rest.now) (values_of l.pair-iterator.b.rest.now) ≡ pairs_under l.initial.pairs.items ++ pairs_in (values_of l.initial.pair-iterator.a.rest.now) (values_of l.initial.pair-iterator.b.rest.now)
