use Rattle.std.proofs.Common.{◌↔◌}
use Rattle.lw_value.specs.Views.{value_of}
use Rattle.lw_value.specs.Private.KeptWeight.{load}
use Rattle.lw_value.specs.Private.Likeness.{Alike, ArePairsAlike, pairs_under, lefts}
use Rattle.lw_value.proofs.equality.are_alike.Given as goal

-- the values are alike exactly where all pairs that are left are
abbrev pub invariant-loop-left : goal.invariant-loop-left
invariant-loop-left l = ArePairsAlike (pairs_under l.pairs.items) ↔ Alike (value_of l.fn.left) (value_of l.fn.right)

abbrev pub decreases-loop-left : goal.decreases-loop-left
decreases-loop-left l = load (lefts (pairs_under l.pairs.items))
