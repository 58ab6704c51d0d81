use Rattle.std.proofs.Common.{arith, ℕ, List, take}
use Rattle.std.proofs.lemmas.Grind.{common_steps}
use Rattle.lw_io.proofs.WrittenPieces.{takes_more}
use Rattle.lw_io.proofs.std_sink.write_whole.Goals as goal

pub loop-rest-preserved : goal.loop-rest-preserved
loop-rest-preserved g c =
    let taken = c.loop-rest.invariant in
    let front : List ℕ = take c.in-Ok.count c.loop-rest.rest.now in
    takes_more _ _ _ c.args.piece.now taken.0 c.loop-rest.rest.now front _ taken.1 taken.2 (grind (arith, common_steps)) c.in-Ok.ensures.bytes
