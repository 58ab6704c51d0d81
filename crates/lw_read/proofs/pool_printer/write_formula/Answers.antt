use Rattle.std.proofs.Common.{Some}
use Rattle.std.proofs.lemmas.List.Elements.{All-pop}
use Rattle.lw_read.specs.Private.PrinterPieces.{IsLivePiece}
use Rattle.lw_read.proofs.PrinterPieces.{pieces-kept}
use Rattle.lw_read.proofs.pool_printer.write_formula.Goals as goal

pub loop-piece-preserved : goal.loop-piece-preserved
loop-piece-preserved c =
    let ts = c.args.pool.now in
    let popped = c.in-Some.ensures.items in
    let w = c.in_ok-write_piece.ensures in (
      pieces-kept ts c.in-Some.piece _ _ _ c.loop-piece.stack.items c.pop.new.self.items _ popped c.loop-piece.invariant.0 w,
      w.live (All-pop (IsLivePiece ts) c.loop-piece.stack.items c.pop.new.self.items (Some c.in-Some.piece) popped c.loop-piece.invariant.1).0,
    )
