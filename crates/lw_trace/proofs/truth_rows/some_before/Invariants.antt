use Rattle.std.proofs.Common.{◌≡◌, map, take}
use Rattle.std.specs.List.{list_any, range_with_len}
use Rattle.lw_trace.proofs.truth_rows.some_before.Given as goal

abbrev pub invariant-loop-value : goal.invariant-loop-value
invariant-loop-value l = record {
  values : l.values.items ≡ map (λ k. list_any (λ b. b) (take k l.row)) (range_with_len 0 l.value-index);
  some : l.some ≡ list_any (λ b. b) (take l.value-index l.row);
}
