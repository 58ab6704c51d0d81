use Rattle.std.proofs.Common.{◌≡◌}
use Rattle.lw_counter.specs.Private.BuiltRelation.{AddsPairs}
use Rattle.lw_counter.proofs.GrownModels.{PairsBelow}
use Rattle.lw_counter.proofs.close.add_pairs.Given as goal

abbrev pub invariant-loop-from : goal.invariant-loop-from
invariant-loop-from l = record { end : l.from-end ≡ l.relation.count; set : AddsPairs l.fn.model l.model (PairsBelow l.relation l.from) }
