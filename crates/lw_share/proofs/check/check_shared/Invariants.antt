use Rattle.lw_pool.specs.Region.{Grows, tree_at}
use Rattle.lw_share.specs.Pooled.{table_at}
use Rattle.lw_share.specs.SharedVerdicts.{HoldBefore}
use Rattle.lw_share.proofs.check.check_shared.Given as goal

abbrev pub invariant-loop-line : goal.invariant-loop-line
invariant-loop-line l = record {
  grows : Grows l.fn.pool l.pool;
  held : HoldBefore l.logic (tree_at l.fn.pool l.goal) (table_at l.fn.pool l.table) l.line;
}
