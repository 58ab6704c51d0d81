use Rattle.std.proofs.Common.{arith, ap}
use Rattle.lw_proof.specs.Tree.{depth}
use Rattle.lw_proof.proofs.ListedTrees.{depth_more}
use Rattle.lw_proof.proofs.proof.Proof.+depth.Goals as goal

pub loop-sub-preserved : goal.loop-sub-preserved
loop-sub-preserved t c =
    let more = depth_more c.deref-sub-items.result.now c.loop-sub.sub-index c.sub-item.result c.loop-sub-test.true in
    let same = ap depth c.sub-item.is in
    omega (arith, more, same, c.loop-sub.invariant, c.depth.ensures, c.max-deepest.ensures)
