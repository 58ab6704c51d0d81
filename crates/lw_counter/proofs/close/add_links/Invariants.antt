use Rattle.lw_counter.specs.Fragment.{IsFormed}
use Rattle.lw_counter.specs.Private.BuiltRelation.{SetsBits}
use Rattle.lw_counter.proofs.EdgeSquares.{Taken}
use Rattle.lw_counter.proofs.close.add_links.Given as goal

abbrev pub invariant-loop-from : goal.invariant-loop-from
invariant-loop-from l = record { formed : IsFormed l.fragment; set : SetsBits l.fn.relation l.relation (Taken l.from-items l.from-index) }
