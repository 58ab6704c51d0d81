use Rattle.std.proofs.Common.{◌≡◌, ◌<◌}
use Rattle.std.specs.List.{All}
use Rattle.lw_closure.specs.Table.{item_count}
use Rattle.lw_sat.specs.Sets.{among, top}
use Rattle.lw_search.proofs.LabelsByItem.{below}
use Rattle.lw_search.proofs.tableau.Tableau.items_in.Given as goal

abbrev pub invariant-loop-item : goal.invariant-loop-item
invariant-loop-item g l = record {
  own : All (λ i. i < item_count l.self) l.items.items;
  same : among l.items.items ≡ below (top l.label.labels) l.item;
}
