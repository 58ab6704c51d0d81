use Rattle.std.proofs.Common.{take}
use Rattle.lw_sets.specs.IdSets.{AreLive, IsKept}
use Rattle.lw_sets.proofs.kept.kept_items.Given as goal

abbrev pub invariant-loop-item : goal.invariant-loop-item
invariant-loop-item l = record {
  kept : IsKept l.logic l.pool (take l.item-index l.item-items) l.kept;
  live : AreLive l.pool l.kept;
  all_live : AreLive l.pool l.item-items;
}
