use Rattle.std.proofs.Common.{◌<◌, ◌^◌, arith}
use Rattle.lw_cert.proofs.WordReaders.{match-none, match-some}
use Rattle.lw_cert.proofs.StageLines.{blocks-refuted}
use Rattle.lw_cert.proofs.LastLines.{leads-refuted, too-many}
use Rattle.lw_cert.proofs.next.refuted.Goals as goal
use Rattle.lw_cert.proofs.next.refuted.Goals.{in_default-2-via-in-Some-2+else-refuted-worlds, in_default-2-via-in_default-2}

pub returns-in_ok-model-in-Some-2 : goal.returns-in_ok-model-in-Some-2
returns-in_ok-model-in-Some-2 c = λ ts.
    leads-refuted ts c.args.line.now c.in-Some.word.now c.args.head c.args.worlds c.in-Some-2.refuted c.in_ok-model-in-Some-2.model c.in-Some.ensures
    (match-some _ _ _ _ c.in_ok-refuted.ensures c.in-Some-2.is) c.if-refuted-worlds.true c.in_ok-model-in-Some-2.ensures

pub returns-in_default-2 : goal.returns-in_default-2
returns-in_default-2 c = λ ts ls told.
    let small : c.args.worlds < 2 ^ 64 = omega arith in
    blocks-refuted c.args.line.now c.in-Some.word.now c.args.worlds c.in-Some.ensures
    (elim c.in_default-2.branch [
      | in_default-2-via-in-Some-2+else-refuted-worlds w ↦ λ n low. too-many w.in-Some-2.refuted c.args.worlds n c.in-Some.word.now (match-some _ _ _ _ c.in_ok-refuted.ensures w.in-Some-2.is) (omega arith) small (omega arith) low
      | in_default-2-via-in_default-2 w ↦ λ n low. match-none _ _ _ c.in_ok-refuted.ensures w.in_default-2.is n (omega (arith, low, small))
    ])
