use Rattle.lw_pool.proofs.SubformulaMarks.{AreMarksFrom}
use Rattle.lw_pool.proofs.pool.Pool.subformula_table.Given as goal

abbrev pub invariant-loop-at : goal.invariant-loop-at
invariant-loop-at l = AreMarksFrom l.at l.self l.fn.id l.marks.items
