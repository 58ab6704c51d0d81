use Rattle.std.proofs.Common.{◌≡◌}
use Rattle.lw_counter.specs.Private.BuiltRelation.{SetsBits}
use Rattle.lw_counter.proofs.BitSquares.{Ends}
use Rattle.lw_counter.proofs.relation.Relation.add_ends.Given as goal

abbrev pub invariant-loop-at : goal.invariant-loop-at
invariant-loop-at l = record { end : l.at-end ≡ l.fn.self.count; set : SetsBits l.fn.self l.self (Ends l.fn.self l.at) }
