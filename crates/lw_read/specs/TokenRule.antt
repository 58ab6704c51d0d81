-- The rule of tokens, beside the recursion that finds them: white space and comments part them, each is of its kind,
-- none could be longer, and the last one tells how the text ends.
use Rattle.std.specs.Prelude.{◌≡◌, ℕ, ◌+◌, ◌^◌, ◌<◌, ◌≤◌, ◌⊎◌, List, [], ◌∷◌, ◌++◌, All, length, codes, slice_get, Some, IsTrue, Contains, ⊤}
use Rattle.std.specs.List.{list_all, slice_range}
use Rattle.lw_formula.specs.Name.{is_digit, is_word_byte}
use Rattle.lw_read.specs.declared.lexer.Token.{Token}
use Rattle.lw_read.specs.declared.lexer.TokenKind.{TokenKind}
use Rattle.lw_read.specs.declared.lexer.TokenKind.TheVariants.{Word, Number, Text, Symbol, LongWord, BigNumber, Bad, Stop}
use Rattle.lw_read.specs.Tokens.{is_space, is_comment_byte, is_letter, is_text_byte, symbols, decimal}

-- a letter, then letters, digits and `_`
abbrev pub IsWord : List ℕ → Type 0
IsWord [] = ⊥
IsWord (b ∷ bytes) = IsTrue (is_letter b) × IsTrue (list_all is_word_byte bytes)

-- a run of digits
abbrev pub IsNumber : List ℕ → Type 0
IsNumber bytes = (0 < length bytes) × IsTrue (list_all is_digit bytes)

-- bytes that a text may hold, between two quotes
abbrev pub IsQuoted : List ℕ → Type 0
IsQuoted bytes = (held : List ℕ) × IsTrue (list_all is_text_byte held) × (bytes ≡ codes "\"" ++ held ++ codes "\"")

-- the bytes are a token of the kind; a bad byte and the end of the text are none
abbrev pub IsTokenText : TokenKind → List ℕ → Type 0
IsTokenText Word bytes = IsWord bytes × (length bytes ≤ 64)
IsTokenText LongWord bytes = IsWord bytes × (64 < length bytes)
IsTokenText Number bytes = IsNumber bytes × (decimal bytes < 2 ^ 64)
IsTokenText BigNumber bytes = IsNumber bytes × (2 ^ 64 ≤ decimal bytes)
IsTokenText Text bytes = IsQuoted bytes
IsTokenText Symbol bytes = Contains symbols bytes
IsTokenText Bad bytes = ⊥
IsTokenText Stop bytes = ⊥

-- the bytes from `start` up to and without `end` are a token of the kind
abbrev pub IsTokenAt : List ℕ → TokenKind → ℕ → ℕ → Type 0
IsTokenAt text kind start end = (end ≤ length text) × IsTokenText kind (slice_range text start end)

-- the bytes from `start` up to and without `end` are a comment: `#`, and all that stands before the next line feed or
-- the end of the text
pub record IsComment (text : List ℕ) (start end : ℕ) : Type 0 where
  pub begins : slice_get text start ≡ Some 35
  pub some : start < end
  pub line : IsTrue (list_all is_comment_byte (slice_range text start end))
  pub ends : (end ≡ length text) ⊎ (slice_get text end ≡ Some 10)

-- the bytes from the first place up to and without the second are white space and comments, or there are none
pub data IsBlank : List ℕ → ℕ → ℕ → Type 0 where
  nothing : {text : List ℕ} {at : ℕ} → IsBlank text at at
  space : {text : List ℕ} {at end : ℕ} (b : ℕ) →
      slice_get text at ≡ Some b → IsTrue (is_space b) → IsBlank text (at + 1) end → IsBlank text at end
  comment : {text : List ℕ} {at mid end : ℕ} →
      IsComment text at mid → IsBlank text mid end → IsBlank text at end

-- from the place on, nothing but white space and comments stands before each token and between two of them
abbrev pub AreParted : List ℕ → ℕ → List Token → Type 0
AreParted text from [] = ⊤
AreParted text from (t ∷ ts) = IsBlank text from t.start × AreParted text t.end ts

-- the token is of its kind, and no token that begins where it does is longer
pub record IsLongest (text : List ℕ) (t : Token) : Type 0 where
  pub is : IsTokenAt text t.kind t.start t.end
  pub longest : (kind : TokenKind) (end : ℕ) → IsTokenAt text kind t.start end → end ≤ t.end

-- the token is the end of the text
pub record IsStop (text : List ℕ) (t : Token) : Type 0 where
  pub kind : t.kind ≡ Stop
  pub start : t.start ≡ length text
  pub end : t.end ≡ length text

-- the token is one byte, at which no token begins, and neither white space nor a comment
pub record IsBad (text : List ℕ) (t : Token) : Type 0 where
  pub kind : t.kind ≡ Bad
  pub within : t.start < length text
  pub one : t.end ≡ t.start + 1
  pub token : (kind : TokenKind) (end : ℕ) → ¬ IsTokenAt text kind t.start end
  pub blank : (end : ℕ) → IsBlank text t.start end → end ≡ t.start

-- the tokens of the text, the last of them its end or a bad byte, and none before it
pub record AreTokens (text : List ℕ) (tokens : List Token) : Type 0 where
  pub parted : AreParted text 0 tokens
  pub front : List Token
  pub last : Token
  pub is : tokens ≡ front ++ last ∷ []
  pub longest : All (IsLongest text) front
  pub ends : IsStop text last ⊎ IsBad text last
