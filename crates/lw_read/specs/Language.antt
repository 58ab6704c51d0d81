-- What a text is in a language, for any grammar over the tokens of texts: its tree, or its first fault with the token
-- that has it.
use Rattle.std.specs.Prelude.{◌≡◌, ℕ, Bool, List, length, map, slice_index}
use Rattle.std.specs.List.{HoldsAt}
use Rattle.lw_read.specs.declared.lexer.Token.{Token}
use Rattle.lw_read.specs.declared.text_fault.TextFault.{TextFault}
use Rattle.lw_read.specs.declared.text_fault.TextFault.TheVariants.{Unexpected, TooLong, Nested, Memory}
use Rattle.lw_read.specs.Tokens.{tokens_of}
use Rattle.lw_read.specs.Places.{Grammar, AreFine, IsUnexpected, IsTooLong, IsNested}

-- a grammar that gives trees to texts
pub record Language (A T : Type 0) : Type 1 where
  -- what a token of a text is to the grammar
  pub lexeme_of : List ℕ → Token → A
  -- the tokens are a text with this tree
  pub IsText : List A → T → Type 0
  -- how many constructs of a text are unfinished at each token
  pub counts : (ts : List A) (a : T) → IsText ts a → List ℕ
  -- the token's word or number is over its limit
  pub is_long : A → Bool

-- the byte, from 0, at which the i-th token of a text begins
abbrev pub start_of : List ℕ → ℕ → ℕ
start_of text i = slice_index (map (λ t. t.start) (tokens_of text)) i

module _ {A T : Type 0} (L : Language A T) where
  -- which tokens are a text, whatever its tree
  abbrev pub grammar_of : Grammar A
  grammar_of = record {
    IsText = λ ts. (a : T) × L.IsText ts a;
    counts = λ ts text. L.counts ts text.0 text.1;
    is_long = L.is_long;
  }

  -- what the tokens of a text are
  abbrev pub lexemes_in : List ℕ → List A
  lexemes_in text = map (L.lexeme_of text) (tokens_of text)

  -- the text has no fault, and this tree
  abbrev pub ReadsIn : List ℕ → T → Type 0
  ReadsIn text a = AreFine grammar_of (lexemes_in text) (length (lexemes_in text)) × L.IsText (lexemes_in text) a

  -- the fault is the first one of the text, and this is its token
  abbrev pub IsFaultIn : List ℕ → TextFault → Type 0
  IsFaultIn text (Unexpected token) =
      (i : ℕ) × IsUnexpected grammar_of (lexemes_in text) i × HoldsAt (λ t. t ≡ token) (tokens_of text) i
  IsFaultIn text (TooLong token) =
      (i : ℕ) × IsTooLong grammar_of (lexemes_in text) i × HoldsAt (λ t. t ≡ token) (tokens_of text) i
  IsFaultIn text (Nested token) =
      (i : ℕ) × IsNested grammar_of (lexemes_in text) i × HoldsAt (λ t. t ≡ token) (tokens_of text) i
  IsFaultIn text Memory = Unit {0}
