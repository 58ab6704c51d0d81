use Rattle.std.proofs.Common.{◌≡◌}
use Rattle.lw_counter.proofs.BitSquares.{IsClosing}
use Rattle.lw_counter.proofs.relation.Relation.close.Given as goal

abbrev pub invariant-loop-middle : goal.invariant-loop-middle
invariant-loop-middle l = record { end : l.middle-end ≡ l.fn.self.count; closing : IsClosing l.fn.self l.self l.middle }
