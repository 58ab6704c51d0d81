use Rattle.std.proofs.Common.{arith, ◌≡◌, ℕ, List, ◌++◌, take, drop}
use Rattle.std.proofs.lemmas.Grind.{common_steps}
use Rattle.lw_io.proofs.memory_sink.MemorySinkSink.write.Goals as goal

pub returns-then-is_some-clause-part : goal.returns-then-is_some-clause-part
returns-then-is_some-clause-part c =
    let piece : List ℕ = c.args.piece.now in
    let k : ℕ = c.match-listed.kept in
    let cut : piece ≡ take k piece ++ drop k piece = grind (arith, common_steps) in
    (take k piece, drop k piece, cut, grind (arith, common_steps))
