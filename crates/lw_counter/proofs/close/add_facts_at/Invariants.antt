use Rattle.lw_counter.specs.Private.BuiltRelation.{AddsFacts}
use Rattle.lw_counter.proofs.GrownModels.{FactsOf}
use Rattle.lw_counter.proofs.close.add_facts_at.Given as goal

abbrev pub invariant-loop-item : goal.invariant-loop-item
invariant-loop-item l = record { set : AddsFacts l.fn.model l.model (FactsOf l.pool l.closure l.world l.label l.item-index) }
