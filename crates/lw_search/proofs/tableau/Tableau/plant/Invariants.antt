use Rattle.std.proofs.Common.{◌≡◌, ◌+◌, ◌≤◌}
use Rattle.lw_closure.specs.Table.{item_count}
use Rattle.lw_sat.specs.SeedPath.{root, spot_of, IsWide}
use Rattle.lw_sat.specs.Sets.{top}
use Rattle.lw_search.proofs.LabelsByItem.{kept_below}
use Rattle.lw_search.proofs.tableau.Tableau.plant.Given as goal

abbrev pub invariant-loop-kept : goal.invariant-loop-kept
invariant-loop-kept g l = record {
  wide : IsWide l.self l.seed;
  few : l.seed.bits ≤ item_count l.self + 64;
  spot : spot_of l.seed ≡ root (kept_below l.self (top l.label.labels) l.kept);
}
