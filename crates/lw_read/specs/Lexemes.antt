-- The tokens of a text as the grammar of formulas sees them.
use Rattle.std.specs.Prelude.{ℕ, Bool, false, ◌&&◌, not, nat_lt, if◌then◌else◌, List, length, map, slice_index, codes}
use Rattle.std.specs.List.{list_all, slice_range}
use Rattle.std.specs.Str.{bytes_eq}
use Rattle.lw_formula.specs.Name.{is_lower, is_word_byte, is_reserved}
use Rattle.lw_read.specs.declared.lexer.Token.{Token}
use Rattle.lw_read.specs.declared.lexer.TokenKind.{TokenKind}
use Rattle.lw_read.specs.declared.lexer.TokenKind.TheVariants.{Word, Number, Text, Symbol, LongWord, BigNumber, Bad, Stop}
use Rattle.lw_read.specs.declared.lexeme.Prefix.{Prefix}
use Rattle.lw_read.specs.declared.lexeme.Prefix.TheVariants.{Not, Nec, Poss}
use Rattle.lw_formula.specs.declared.joint.Joint.{Joint}
use Rattle.lw_formula.specs.declared.joint.Joint.TheVariants.{And, Or, Imp, Iff}
use Rattle.lw_read.specs.Tokens.{tokens_of}

-- a variable, `true`, `false`, one of `~ box dia`, one of `& v -> <->`, a bracket, the end of the text, or what
-- stands in no formula
pub data Lexeme : Type 0 where
  Variable : (name : List ℕ) → Lexeme
  Truth : Lexeme
  Falsity : Lexeme
  Before : (sign : Prefix) → Lexeme
  Between : (sign : Joint) → Lexeme
  Open : Lexeme
  Close : Lexeme
  End : Lexeme
  Foreign : Lexeme

-- a word that is a variable: a lower-case letter, then letters, digits and `_`, and no reserved word
unfoldable pub is_variable : List ℕ → Bool
is_variable word = is_lower (slice_index word 0) && list_all is_word_byte word && not (is_reserved word)

-- what a word is, if it is none of those with a meaning of their own in formulas
abbrev pub other_lexeme : List ℕ → Lexeme
other_lexeme word = if is_variable word then Variable word else Foreign

-- what a word is
unfoldable pub word_lexeme : List ℕ → Lexeme
word_lexeme word =
    if bytes_eq word (codes "true") then Truth else
    if bytes_eq word (codes "false") then Falsity else
    if bytes_eq word (codes "box") then Before Nec else
    if bytes_eq word (codes "dia") then Before Poss else
    if bytes_eq word (codes "v") then Between Or else
    other_lexeme word

-- what a symbol is
unfoldable pub symbol_lexeme : List ℕ → Lexeme
symbol_lexeme symbol =
    if bytes_eq symbol (codes "~") then Before Not else
    if bytes_eq symbol (codes "&") then Between And else
    if bytes_eq symbol (codes "->") then Between Imp else
    if bytes_eq symbol (codes "<->") then Between Iff else
    if bytes_eq symbol (codes "(") then Open else
    if bytes_eq symbol (codes ")") then Close else Foreign

-- what a token of this kind with these bytes is
abbrev pub kind_lexeme : TokenKind → List ℕ → Lexeme
kind_lexeme Word bytes = word_lexeme bytes
kind_lexeme LongWord bytes = word_lexeme bytes
kind_lexeme Symbol bytes = symbol_lexeme bytes
kind_lexeme Stop bytes = End
kind_lexeme Number bytes = Foreign
kind_lexeme Text bytes = Foreign
kind_lexeme BigNumber bytes = Foreign
kind_lexeme Bad bytes = Foreign

-- what a token of a text is
abbrev pub lexeme_of : List ℕ → Token → Lexeme
lexeme_of text token = kind_lexeme token.kind (slice_range text token.start token.end)

-- what the tokens of a text are
abbrev pub lexemes_of : List ℕ → List Lexeme
lexemes_of text = map (lexeme_of text) (tokens_of text)

-- a variable of more than 64 bytes
abbrev pub is_long : Lexeme → Bool
is_long (Variable name) = nat_lt 64 (length name)
is_long _ = false
