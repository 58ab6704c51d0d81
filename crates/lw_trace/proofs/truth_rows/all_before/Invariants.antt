use Rattle.std.proofs.Common.{◌≡◌, map, take}
use Rattle.std.specs.List.{list_all, range_with_len}
use Rattle.lw_trace.proofs.truth_rows.all_before.Given as goal

abbrev pub invariant-loop-value : goal.invariant-loop-value
invariant-loop-value l = record {
  values : l.values.items ≡ map (λ k. list_all (λ b. b) (take k l.row)) (range_with_len 0 l.value-index);
  all : l.all ≡ list_all (λ b. b) (take l.value-index l.row);
}
