use Rattle.std.proofs.Common.{◌≡◌, ◌<◌}
use Rattle.std.specs.List.{All}
use Rattle.lw_closure.specs.Table.{item_count}
use Rattle.lw_sat.specs.Course.{label}
use Rattle.lw_sat.specs.Sets.{among}
use Rattle.lw_s5.proofs.ChildSeeds.{modal_of}
use Rattle.lw_s5.proofs.ItemLists.{first}
use Rattle.lw_s5.proofs.child.seed.Given as goal

abbrev pub invariant-loop-kept : goal.invariant-loop-kept
invariant-loop-kept l = record {
  set : among l.seed.items ≡ first l.kept (modal_of l.closure (label l.root));
  below : All (λ i. i < item_count l.closure) l.seed.items;
}
