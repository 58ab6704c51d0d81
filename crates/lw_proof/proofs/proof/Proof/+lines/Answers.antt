use Rattle.std.proofs.Common.{arith, ap}
use Rattle.lw_proof.specs.Tree.{lines}
use Rattle.lw_proof.proofs.ListedTrees.{lines_more}
use Rattle.lw_proof.proofs.proof.Proof.+lines.Goals as goal

pub loop-sub-preserved : goal.loop-sub-preserved
loop-sub-preserved t c =
    let more = lines_more c.deref-sub-items.result.now c.loop-sub.sub-index c.sub-item.result c.loop-sub-test.true in
    let same = ap lines c.sub-item.is in
    omega (arith, more, same, c.loop-sub.invariant, c.lines.ensures, c.saturating_add-count.ensures)
