use Rattle.lw_fix.proofs.OutermostFound.{AreFoundBelow}
use Rattle.lw_fix.proofs.outermost.outermost.Given as goal

abbrev pub invariant-loop-at : goal.invariant-loop-at
invariant-loop-at l = AreFoundBelow l.at l.pool l.marks.items l.letters.items l.ids.items
