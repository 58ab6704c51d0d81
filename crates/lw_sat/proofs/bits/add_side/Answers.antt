use Rattle.lw_sat.proofs.LastRowChanges.{added_both}
use Rattle.lw_sat.proofs.bits.add_side.Goals as goal

pub returns-in-Some : goal.returns-in-Some
returns-in-Some c = added_both _ _ _ c.args.side c.in-Some.item c.in-Some.is c.add.ensures c.add-in-Some.ensures
