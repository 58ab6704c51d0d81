use Rattle.std.proofs.Common.{arith}
use Rattle.lw_cert.proofs.WordReaders.{match-none, match-some}
use Rattle.lw_cert.proofs.StageLines.{leads-worlds, blocks-worlds}
use Rattle.lw_cert.proofs.LastLines.{too-few}
use Rattle.lw_cert.proofs.next.counted.Goals as goal
use Rattle.lw_cert.proofs.next.counted.Goals.{in_default-2-via-in-Some-2+else-worlds-ge1, in_default-2-via-in_default-2}

pub returns-in-Some-2 : goal.returns-in-Some-2
returns-in-Some-2 c = λ ts.
    leads-worlds ts c.args.line.now c.in-Some.word.now c.args.head c.in-Some-2.worlds c.in-Some.ensures (match-some _ _ _ _ c.in_ok-worlds.ensures c.in-Some-2.is) (omega arith) (omega arith)

pub returns-in_default-2 : goal.returns-in_default-2
returns-in_default-2 c = λ ts ls told.
    blocks-worlds c.args.line.now c.in-Some.word.now c.in-Some.ensures
    (elim c.in_default-2.branch [
      | in_default-2-via-in-Some-2+else-worlds-ge1 w ↦ λ n low small. too-few w.in-Some-2.worlds n c.in-Some.word.now (match-some _ _ _ _ c.in_ok-worlds.ensures w.in-Some-2.is) (omega arith) low small
      | in_default-2-via-in_default-2 w ↦ λ n low small. match-none _ _ _ c.in_ok-worlds.ensures w.in_default-2.is n small
    ])
