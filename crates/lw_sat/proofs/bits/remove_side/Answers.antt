use Rattle.lw_sat.proofs.LastRowChanges.{removed_both}
use Rattle.lw_sat.proofs.bits.remove_side.Goals as goal

pub returns-in-Some : goal.returns-in-Some
returns-in-Some c = removed_both _ _ _ c.args.side c.in-Some.item c.in-Some.is c.remove.ensures c.remove-in-Some.ensures
