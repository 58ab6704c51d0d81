use Rattle.std.proofs.Common.{◌≡◌, length}
use Rattle.lw_counter.specs.Private.BuiltRelation.{AddsFacts}
use Rattle.lw_counter.specs.Private.LabelFacts.{FactsBelow}
use Rattle.lw_counter.proofs.close.add_facts.Given as goal

abbrev pub invariant-loop-world : goal.invariant-loop-world
invariant-loop-world l = record { end : l.world-end ≡ length l.fragment.worlds; set : AddsFacts l.fn.model l.model (FactsBelow l.pool l.closure l.fragment l.world) }
