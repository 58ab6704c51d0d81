use Rattle.std.proofs.Common.{◌≡◌, ◌++◌, All}
use Rattle.lw_pool.specs.Region.{tree_at}
use Rattle.lw_read.specs.Text.{text_of}
use Rattle.lw_read.specs.Private.PrinterPieces.{pieces_text, pieces_weight, IsLivePiece}
use Rattle.lw_read.proofs.pool_printer.write_formula.Given as goal

-- what is written and what the pieces stand for make the text
abbrev pub invariant-loop-piece : goal.invariant-loop-piece
invariant-loop-piece l =
    (l.out.items ++ pieces_text l.pool l.stack.items ≡ l.initial.out.items ++ text_of (tree_at l.pool l.fn.id))
    × All (IsLivePiece l.pool) l.stack.items

abbrev pub decreases-loop-piece : goal.decreases-loop-piece
decreases-loop-piece l = pieces_weight l.pool l.stack.items
