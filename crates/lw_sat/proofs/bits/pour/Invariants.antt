use Rattle.lw_sat.specs.Sets.{top}
use Rattle.lw_sat.specs.Private.LastRow.{Replaces}
use Rattle.lw_sat.proofs.LastRowChanges.{poured}
use Rattle.lw_sat.proofs.bits.pour.Given as goal

abbrev pub invariant-loop-item : goal.invariant-loop-item
invariant-loop-item l = Replaces l.initial.into l.into (poured (top l.from) (top l.initial.into) l.item)
