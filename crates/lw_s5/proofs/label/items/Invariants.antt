use Rattle.std.proofs.Common.{◌≡◌, ◌<◌}
use Rattle.std.specs.List.{All}
use Rattle.lw_closure.specs.Table.{item_count}
use Rattle.lw_sat.specs.Course.{label}
use Rattle.lw_sat.specs.Sets.{among}
use Rattle.lw_s5.proofs.ItemLists.{first}
use Rattle.lw_s5.proofs.label.items.Given as goal

abbrev pub invariant-loop-item : goal.invariant-loop-item
invariant-loop-item l = record {
  set : among l.items.items ≡ first l.item (label l.saturation);
  below : All (λ i. i < item_count l.closure) l.items.items;
}
