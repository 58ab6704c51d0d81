use Rattle.std.proofs.Common.{◌≡◌, length}
use Rattle.lw_counter.specs.Fragment.{IsFormed}
use Rattle.lw_counter.specs.Private.BuiltRelation.{SetsBits}
use Rattle.lw_counter.proofs.EdgeSquares.{Children}
use Rattle.lw_counter.proofs.close.add_children.Given as goal

abbrev pub invariant-loop-child : goal.invariant-loop-child
invariant-loop-child l = record { end : l.child-end ≡ length l.fragment.worlds; formed : IsFormed l.fragment; set : SetsBits l.fn.relation l.relation (Children l.fragment l.child) }
