use Rattle.std.proofs.Common.{◌≡◌}
use Rattle.lw_counter.specs.Private.BuiltRelation.{SetsBits}
use Rattle.lw_counter.proofs.BitSquares.{InRow}
use Rattle.lw_counter.proofs.relation.Relation.add_row.Given as goal

abbrev pub invariant-loop-to : goal.invariant-loop-to
invariant-loop-to l = record { end : l.to-end ≡ l.fn.self.count; set : SetsBits l.fn.self l.self (InRow l.fn.self l.from l.other l.to) }
