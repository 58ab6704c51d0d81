use Rattle.lw_model.proofs.RowsEndToEnd.{IsLeft}
use Rattle.lw_model.proofs.ordered_rows.find.Given as goal

abbrev pub invariant-loop-at : goal.invariant-loop-at
invariant-loop-at g l = IsLeft l.rows l.i l.at l.place
