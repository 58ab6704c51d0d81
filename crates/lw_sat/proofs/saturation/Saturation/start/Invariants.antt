use Rattle.std.proofs.Common.{◌≡◌, ◌≤◌, take}
use Rattle.lw_closure.specs.Table.{item_count}
use Rattle.lw_sat.specs.SeedPath.{root, spot_of}
use Rattle.lw_sat.specs.Sets.{among}
use Rattle.lw_sat.proofs.saturation.Saturation.start.Given as goal

abbrev pub invariant-loop-item : goal.invariant-loop-item
invariant-loop-item l = record {
  spot : spot_of l.board ≡ root (among (take l.item-index l.seed));
  wide : item_count l.closure ≤ l.board.bits;
}
