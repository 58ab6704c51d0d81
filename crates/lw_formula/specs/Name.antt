-- What a name of a propositional variable is: a test of its bytes.
use Rattle.std.specs.Prelude.{ℕ, Bool, List, [], ◌∷◌, ◌&&◌, ◌||◌, ◌==◌, not, nat_le, length, slice_index, codes}
use Rattle.std.specs.List.{list_all, list_any}
use Rattle.std.specs.Str.{bytes_eq}

-- a lower-case letter
abbrev pub is_lower : ℕ → Bool
is_lower b = nat_le 97 b && nat_le b 122

-- an upper-case letter
abbrev pub is_upper : ℕ → Bool
is_upper b = nat_le 65 b && nat_le b 90

-- a decimal digit
abbrev pub is_digit : ℕ → Bool
is_digit b = nat_le 48 b && nat_le b 57

-- what a word goes on with: a letter, a digit or `_`
abbrev pub is_word_byte : ℕ → Bool
is_word_byte b = is_lower b || is_upper b || is_digit b || b == 95

-- the words that stand for something else
unfoldable pub reserved_words : List (List ℕ)
reserved_words =
    codes "true" ∷ codes "false" ∷ codes "box" ∷ codes "dia" ∷ codes "v" ∷ codes "yes" ∷ codes "no" ∷
    codes "none" ∷ codes "and" ∷ codes "or" ∷ codes "not" ∷ codes "print" ∷ codes "if" ∷ codes "then" ∷
    codes "else" ∷ codes "end" ∷ codes "for" ∷ codes "to" ∷ codes "in" ∷ codes "do" ∷ codes "while" ∷
    codes "k" ∷ codes "kt" ∷ codes "s4" ∷ codes "s5" ∷ codes "gl" ∷ codes "grz" ∷ codes "k4" ∷ codes "kd" ∷
    codes "provable" ∷ codes "certificate" ∷ codes "interpolate" ∷ codes "fixpoint" ∷ codes "nnf" ∷
    codes "simplify" ∷ codes "goedel" ∷ codes "boxdot" ∷ codes "substitute" ∷ codes "vars" ∷ codes "depth" ∷
    codes "count" ∷ codes "length" ∷ codes "item" ∷ codes "append" ∷ codes "follows" ∷ codes "smallest" ∷
    codes "trace" ∷ codes "letterless" ∷ codes "shared" ∷ []

unfoldable pub is_reserved : List ℕ → Bool
is_reserved bytes = list_any (λ word. bytes_eq word bytes) reserved_words

-- 1 to 64 bytes: a lower-case letter, then letters, digits and `_`, and no reserved word
unfoldable pub is_name : List ℕ → Bool
is_name bytes = is_lower (slice_index bytes 0) && list_all is_word_byte bytes && nat_le (length bytes) 64 && not (is_reserved bytes)
