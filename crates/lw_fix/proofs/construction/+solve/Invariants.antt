use Rattle.std.proofs.Common.{length}
use Rattle.lw_pool.specs.Region.{tree_at, Grows}
use Rattle.lw_fix.specs.Private.Solved.{AreSolved}
use Rattle.lw_fix.proofs.BoxImages.{rest_of}
use Rattle.lw_fix.proofs.BuiltFixedPoints.{AreBuilt}
use Rattle.lw_fix.proofs.construction.+solve.Given as goal

abbrev pub decreases-solve : goal.decreases-solve
decreases-solve l = length l.left.now

abbrev pub invariant-loop-at : goal.invariant-loop-at
invariant-loop-at l =
    Grows l.initial.pool l.pool
    × AreSolved l.pool l.name l.solved.entries
    × AreBuilt l.pool l.name (rest_of l.fn.pool l.taken (tree_at l.fn.pool l.id)) l.taken l.left l.at l.images.items
