-- What the tokens of a text are, without their places.
use Rattle.std.proofs.Common.{◌≡◌, ℕ, zero, suc, ◌+◌, ◌-◌, List, [], ◌∷◌, map, take, drop, refl, sym, ◌∙◌, ap, arith}
use Rattle.std.proofs.lemmas.List.{drop-drop}
use Rattle.std.specs.List.{slice_range}
use Rattle.lw_read.specs.declared.lexer.Front.{Front}
use Rattle.lw_read.specs.declared.lexer.Front.TheVariants.{Blank, Piece, Wrong}
use Rattle.lw_read.specs.Tokens.{front_of, tokens_at, tokens_from}
use Rattle.lw_read.specs.Lexemes.{Lexeme, End, Foreign, kind_lexeme, lexeme_of, lexemes_of}

abbrev pub lexed_at : Front → List ℕ → (ℕ → List Lexeme) → List Lexeme
lexed_at (Blank n) bytes behind = behind n
lexed_at (Piece kind n) bytes behind = kind_lexeme kind (take n bytes) ∷ behind n
lexed_at Wrong bytes behind = Foreign ∷ []

-- what the tokens of the bytes are, of which the first few are skipped
unfoldable pub lexed : ℕ → List ℕ → List Lexeme
lexed skipped [] = End ∷ []
lexed (suc skipped) (b ∷ bytes) = lexed skipped bytes
lexed zero (b ∷ bytes) = lexed_at (front_of (b ∷ bytes)) (b ∷ bytes) (λ n. lexed (n - 1) bytes)

pub slice-is : (text bytes : List ℕ) (at n : ℕ) → drop at text ≡ bytes → slice_range text at (at + n) ≡ take n bytes
slice-is text bytes at n is = let len : at + n - at ≡ n = omega arith in ap (λ m. take m (drop at text)) len ∙ ap (take n) is

-- the bytes that a token's place names are those at the front
pub lexed-is : (skipped at : ℕ) (bytes text : List ℕ) → drop at text ≡ bytes → map (lexeme_of text) (tokens_from skipped at bytes) ≡ lexed skipped bytes
unfolding tokens_from lexed
lexed-is skipped at [] text = λ is. refl
lexed-is (suc skipped) at (b ∷ bytes) text = λ is. lexed-is skipped (at + 1) bytes text (sym (drop-drop 1 at text) ∙ ap (drop 1) is)
lexed-is zero at (b ∷ bytes) text = λ is.
    step (front_of (b ∷ bytes)) is (λ n. lexed-is n (at + 1) bytes text (sym (drop-drop 1 at text) ∙ ap (drop 1) is))
  where
    step : (f : Front) → drop at text ≡ b ∷ bytes → ((n : ℕ) → map (lexeme_of text) (tokens_from n (at + 1) bytes) ≡ lexed n bytes)
        → map (lexeme_of text) (tokens_at f at (λ len. tokens_from (len - 1) (at + 1) bytes)) ≡ lexed_at f (b ∷ bytes) (λ n. lexed (n - 1) bytes)
    step (Blank n) is next = next (n - 1)
    step (Piece kind n) is next =
        let here = ap (kind_lexeme kind) (slice-is text (b ∷ bytes) at n is) in
        let rest = next (n - 1) in
        cc
    step Wrong is next = refl

pub lexed-tokens : (text : List ℕ) → lexemes_of text ≡ lexed 0 text
lexed-tokens text = lexed-is 0 0 text text refl
