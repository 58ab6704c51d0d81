use Rattle.std.proofs.Common.{◌≡◌}
use Rattle.lw_counter.specs.Private.BuiltRelation.{SetsBits}
use Rattle.lw_counter.proofs.BitSquares.{Through}
use Rattle.lw_counter.proofs.relation.Relation.join_through.Given as goal

abbrev pub invariant-loop-from : goal.invariant-loop-from
invariant-loop-from l = record { end : l.from-end ≡ l.fn.self.count; set : SetsBits l.fn.self l.self (Through l.fn.self l.middle l.from) }
