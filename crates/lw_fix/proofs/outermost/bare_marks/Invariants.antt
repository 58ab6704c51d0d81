use Rattle.lw_fix.proofs.BareMarks.{AreBareMarksFrom}
use Rattle.lw_fix.proofs.outermost.bare_marks.Given as goal

abbrev pub invariant-loop-at : goal.invariant-loop-at
invariant-loop-at l = AreBareMarksFrom l.at l.pool l.fn.id l.marks.items
