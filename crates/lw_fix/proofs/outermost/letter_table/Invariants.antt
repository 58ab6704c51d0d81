use Rattle.lw_fix.specs.Private.OutermostIds.{IsLetterTable}
use Rattle.lw_fix.proofs.outermost.letter_table.Given as goal

abbrev pub invariant-loop-at : goal.invariant-loop-at
invariant-loop-at l = IsLetterTable l.pool l.name l.at l.letters.items
