use Rattle.std.proofs.Common.{ℕ, ◌<◌, ◌≤◌, length, get_or}
use Rattle.lw_read.specs.declared.lexer.Token.{Token}
use Rattle.lw_read.specs.Tokens.{tokens_of}
use Rattle.lw_read.proofs.TokenByToken.{Reached}
use Rattle.lw_read.proofs.text.read_tokens.Given as goal

abbrev pub invariant-loop-token : goal.invariant-loop-token
invariant-loop-token g l = record {
  reached : Reached g.R.TextReader.language g.R.TextReader.machine l.text l.token-index (g.R.TextReader.state l.reader);
  known : (at : ℕ) × ((d : Token) → l.token-index < length (tokens_of l.text) → at ≤ (get_or (tokens_of l.text) l.token-index d).start) × g.R.TextReader.knows l.reader l.text at;
}
