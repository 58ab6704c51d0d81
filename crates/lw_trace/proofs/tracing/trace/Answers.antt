use Rattle.std.proofs.Common.{◌≡◌, ◌+◌, ap, ◌∙◌, arith, length}
use Rattle.std.proofs.lemmas.List.FromFn.{length-map-range_with_len}
use Rattle.lw_formula.specs.Formula.{depth}
use Rattle.lw_pool.specs.Region.{tree_at}
use Rattle.lw_trace.specs.LetterlessTruth.{holds_at}
use Rattle.lw_trace.specs.Private.TruthRows.{truth_row, read_off}
use Rattle.lw_trace.proofs.DepthCounts.{depth-few}
use Rattle.lw_trace.proofs.RowTruth.{read_off-truth_row}
use Rattle.lw_trace.proofs.tracing.trace.Goals as goal

pub overflow_add-depth : goal.overflow_add-depth
overflow_add-depth c = omega (arith, c.in_ok-depth.ensures, c.in_ok-check_size.ensures.few, depth-few (tree_at c.args.pool.now c.args.id))

pub read_off-requires : goal.read_off-requires
read_off-requires c =
    let a = tree_at c.args.pool.now c.args.id in
    omega (
      arith,
      ap length (c.deref.ensures.value ∙ c.in_ok-row.ensures),
      length-map-range_with_len (holds_at a) 0 (c.in_ok-depth.depth + 1),
    )

pub returns-clause-trace : goal.returns-clause-trace
returns-clause-trace c =
    let a = tree_at c.args.pool.now c.args.id in
    let same : c.in_ok-depth.depth ≡ depth a = omega (arith, c.in_ok-depth.ensures, c.in_ok-check_size.ensures.few, depth-few a) in
    c.in_ok-read_off.ensures
    ∙ ap (λ row. read_off row c.in_ok-depth.depth) (c.deref.ensures.value ∙ c.in_ok-row.ensures)
    ∙ ap (λ d. read_off (truth_row a (d + 1)) d) same
    ∙ read_off-truth_row a
