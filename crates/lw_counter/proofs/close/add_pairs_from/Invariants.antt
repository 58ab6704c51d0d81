use Rattle.std.proofs.Common.{◌≡◌}
use Rattle.lw_counter.specs.Private.BuiltRelation.{AddsPairs}
use Rattle.lw_counter.proofs.GrownModels.{PairsOfRow}
use Rattle.lw_counter.proofs.close.add_pairs_from.Given as goal

abbrev pub invariant-loop-to : goal.invariant-loop-to
invariant-loop-to l = record { end : l.to-end ≡ l.relation.count; set : AddsPairs l.fn.model l.model (PairsOfRow l.relation l.from l.to) }
