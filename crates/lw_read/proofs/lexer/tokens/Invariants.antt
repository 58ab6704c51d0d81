use Rattle.std.proofs.Common.{◌≡◌, ◌-◌, ◌++◌, ◌≤◌, length, drop}
use Rattle.lw_read.specs.Tokens.{tokens_from, tokens_of}
use Rattle.lw_read.proofs.lexer.tokens.Given as goal

-- the tokens so far and those of the rest are the tokens of the text
abbrev pub invariant-loop-at : goal.invariant-loop-at
invariant-loop-at l = (l.at ≤ length l.text) × (l.tokens.items ++ tokens_from 0 l.at (drop l.at l.text) ≡ tokens_of l.text)

abbrev pub decreases-loop-at : goal.decreases-loop-at
decreases-loop-at l = length l.text - l.at
