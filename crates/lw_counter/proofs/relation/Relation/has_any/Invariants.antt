use Rattle.std.proofs.Common.{◌≡◌}
use Rattle.lw_counter.proofs.BitSquares.{HasNoneBelow}
use Rattle.lw_counter.proofs.relation.Relation.has_any.Given as goal

abbrev pub invariant-loop-to : goal.invariant-loop-to
invariant-loop-to l = record { end : l.to-end ≡ l.self.count; none : HasNoneBelow l.self l.from l.to }
