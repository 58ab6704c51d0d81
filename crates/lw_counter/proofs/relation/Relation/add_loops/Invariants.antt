use Rattle.std.proofs.Common.{◌≡◌}
use Rattle.lw_counter.specs.Private.BuiltRelation.{SetsBits}
use Rattle.lw_counter.proofs.BitSquares.{Loops}
use Rattle.lw_counter.proofs.relation.Relation.add_loops.Given as goal

abbrev pub invariant-loop-at : goal.invariant-loop-at
invariant-loop-at l = record { end : l.at-end ≡ l.fn.self.count; set : SetsBits l.fn.self l.self (Loops l.at) }
