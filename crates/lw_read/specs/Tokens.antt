-- The tokens of formulas and scripts. At each place the longest one is taken; white space and comments part them.
use Rattle.std.specs.Prelude.{ℕ, suc, zero, ◌+◌, ◌-◌, ◌*◌, ◌^◌, ◌≤◌, Bool, ◌&&◌, ◌||◌, ◌==◌, not, nat_eq, nat_le, nat_lt, if◌then◌else◌, List, [], ◌∷◌, length, take_while, find, fold, slice_index, codes}
use Rattle.std.specs.List.{starts_with}
use Rattle.std.specs.Option.{option_map_or}
use Rattle.lw_formula.specs.Name.{is_lower, is_upper, is_digit, is_word_byte}
use Rattle.lw_read.specs.declared.lexer.Front.{Front}
use Rattle.lw_read.specs.declared.lexer.Front.TheVariants.{Blank, Piece, Wrong}
use Rattle.lw_read.specs.declared.lexer.Token.{Token}
use Rattle.lw_read.specs.declared.lexer.TokenKind.TheVariants.{Word, Number, Text, Symbol, LongWord, BigNumber, Bad, Stop}

-- white space: space, tab, carriage return, line feed
abbrev pub is_space : ℕ → Bool
is_space b = b == 32 || b == 9 || b == 13 || b == 10

-- a byte of a comment: any but the line feed
abbrev pub is_comment_byte : ℕ → Bool
is_comment_byte b = not (b == 10)

-- what a word begins with
abbrev pub is_letter : ℕ → Bool
is_letter b = is_lower b || is_upper b

-- what stands between the quotes of a text: printable ASCII other than `"`
abbrev pub is_text_byte : ℕ → Bool
is_text_byte b = nat_le 32 b && nat_le b 126 && not (b == 34)

-- the symbols; one that begins with another stands before it, so the first that fits is the longest
unfoldable pub symbols : List (List ℕ)
symbols =
    codes "<->" ∷ codes "->" ∷ codes ":=" ∷ codes "==" ∷ codes "!=" ∷ codes "<=" ∷ codes "<" ∷ codes "~" ∷
    codes "&" ∷ codes "+" ∷ codes "-" ∷ codes "*" ∷ codes "(" ∷ codes ")" ∷ codes "[" ∷ codes "]" ∷ codes "," ∷
    codes ";" ∷ []

-- the length of the longest symbol at the front, or 0
unfoldable pub symbol_length : List ℕ → ℕ
symbol_length bytes = option_map_or length (find (starts_with nat_eq bytes) symbols) 0

-- the number that decimal digits write
abbrev pub decimal : List ℕ → ℕ
decimal digits = fold (λ n b. n * 10 + (b - 48)) 0 digits

-- a word has at most 64 bytes, or is a long one
abbrev pub word_front : List ℕ → Front
word_front word = Piece (if nat_le (length word) 64 then Word else LongWord) (length word)

-- a number is below 2 ^ 64, or is a big one
abbrev pub number_front : List ℕ → Front
number_front digits = Piece (if nat_lt (decimal digits) (2 ^ 64) then Number else BigNumber) (length digits)

-- a text ends with a quote behind the bytes that it may hold
abbrev pub quoted_front : ℕ → List ℕ → Front
quoted_front held bytes = if slice_index bytes held == 34 then Piece Text (held + 2) else Wrong

-- a symbol of this length, where there is one
abbrev pub symbol_front : ℕ → Front
symbol_front len = if len == 0 then Wrong else Piece Symbol len

-- what stands at the front: white space or a comment, a token with its length, or a byte that begins no token
unfoldable pub front_of : List ℕ → Front
front_of [] = Wrong
front_of (b ∷ bytes) =
    if is_space b then Blank 1 else
    if b == 35 then Blank (length (take_while is_comment_byte (b ∷ bytes))) else
    if is_letter b then word_front (take_while is_word_byte (b ∷ bytes)) else
    if is_digit b then number_front (take_while is_digit (b ∷ bytes)) else
    if b == 34 then quoted_front (length (take_while is_text_byte bytes)) bytes else
    symbol_front (symbol_length (b ∷ bytes))

-- the tokens from a place where this stands, given those behind so many bytes
abbrev pub tokens_at : Front → ℕ → (ℕ → List Token) → List Token
tokens_at (Blank len) at behind = behind len
tokens_at (Piece kind len) at behind = record { kind = kind; start = at; end = at + len } ∷ behind len
tokens_at Wrong at behind = record { kind = Bad; start = at; end = at + 1 } ∷ []

-- the tokens of the bytes from the place `at` on, of which the first few are skipped
unfoldable pub tokens_from : ℕ → ℕ → List ℕ → List Token
tokens_from skipped at [] = record { kind = Stop; start = at; end = at } ∷ []
tokens_from (suc skipped) at (b ∷ bytes) = tokens_from skipped (at + 1) bytes
tokens_from zero at (b ∷ bytes) = tokens_at (front_of (b ∷ bytes)) at (λ len. tokens_from (len - 1) (at + 1) bytes)

-- the tokens of a text, up to its end or the first byte that begins none
abbrev pub tokens_of : List ℕ → List Token
tokens_of text = tokens_from 0 0 text

-- the tokens stand one behind another from the one place to the other
abbrev pub AreInOrder : ℕ → List Token → ℕ → Type 0
AreInOrder from [] end = from ≤ end
AreInOrder from (t ∷ ts) end = (from ≤ t.start) × (t.start ≤ t.end) × AreInOrder t.end ts end
