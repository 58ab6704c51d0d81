use Rattle.lw_pool.specs.Region.{tree_at}
use Rattle.lw_pool.proofs.FoldedTables.{IsFolded}
use Rattle.lw_pool.proofs.walk.fold.Given as goal

abbrev pub invariant-loop-at : goal.invariant-loop-at
invariant-loop-at g l = IsFolded (g.F.Step.is_right l.by) (g.P.Formulas.formulas l.fn.pool) (tree_at (g.P.Formulas.formulas l.fn.pool) l.fn.id) l.at (g.P.Formulas.formulas l.pool) l.done.items × g.F.Step.suits l.by (g.P.Formulas.formulas l.pool)
