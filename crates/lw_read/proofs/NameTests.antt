-- Which words are names.
use Rattle.std.proofs.Common.{◌≡◌, ℕ, ◌<◌, Bool, true, false, ◌&&◌, ◌||◌, not, nat_eq, nat_lt, nat_le, cond, List, [], ◌∷◌, length, slice_index, refl, sym, ◌∙◌, ap, arith}
use Rattle.std.proofs.lemmas.Bool.Decides.{nat_tests}
use Rattle.std.proofs.lemmas.Bool.{false≢true}
use Rattle.std.specs.List.{list_all, list_any}
use Rattle.std.specs.Str.{bytes_eq}
use lib.Pointwise.{pointwise_long}
use Rattle.lw_formula.specs.Name.{is_lower, is_word_byte, reserved_words, is_reserved, is_name}
use Rattle.lw_formula.specs.Formula.{letter}
use Rattle.lw_read.specs.Lexemes.{Variable, Foreign, is_variable, other_lexeme, is_long}
use Rattle.lw_read.specs.Private.ReaderViews.{IsShortVariable}

pub and_both : (a b : Bool) → (a && b) ≡ true → (a ≡ true) × (b ≡ true)
and_both true b = λ h. (refl, h)
and_both false b = λ h. absurd (false≢true h)

-- a word that is longer than each of these is none of them
none_same : (words : List (List ℕ)) (w : List ℕ) → list_all (λ v. nat_le (length v) 64) words ≡ true → 64 < length w → list_any (λ v. bytes_eq v w) words ≡ false
none_same [] w short long = refl
none_same (v ∷ words) w short long =
    let both = and_both (nat_le (length v) 64) (list_all (λ v. nat_le (length v) 64) words) short in
    let rest = none_same words w both.1 long in
    let Goal : Bool → Type 0 = λ b. bytes_eq v w ≡ b → (b || list_any (λ v. bytes_eq v w) words) ≡ false in
    elim (bytes_eq v w) as Goal [
      | true ↦ λ is. let same = pointwise_long nat_eq v w is in let low = both.0 in absurd (grind (arith, nat_tests))
      | false ↦ λ is. rest
    ] refl

unreserved : (w : List ℕ) → 64 < length w → is_reserved w ≡ false
unfolding is_reserved reserved_words
unreserved w long = none_same reserved_words w refl long

and_swap : (x c d : Bool) → ((x && c) && d) ≡ ((x && d) && c)
and_swap true true true = refl
and_swap true true false = refl
and_swap true false true = refl
and_swap true false false = refl
and_swap false c d = refl

-- a name is a variable that isn't long
pub is_name-is : (w : List ℕ) → is_name w ≡ (is_variable w && nat_le (length w) 64)
unfolding is_name is_variable
is_name-is w = and_swap (is_lower (slice_index w 0) && list_all is_word_byte w) (nat_le (length w) 64) (not (is_reserved w))

is_variable-long : (w : List ℕ) → 64 < length w → is_variable w ≡ (is_lower (slice_index w 0) && list_all is_word_byte w)
unfolding is_variable
is_variable-long w long = let free = unreserved w long in plain (is_lower (slice_index w 0) && list_all is_word_byte w) (is_reserved w) free
  where
    plain : (x r : Bool) → r ≡ false → (x && not r) ≡ x
    plain true true h = absurd (false≢true (sym h))
    plain true false h = refl
    plain false r h = refl

long_if : (v : Bool) (w : List ℕ) → is_long (cond v (Variable w) Foreign) ≡ (v && nat_lt 64 (length w))
long_if true w = refl
long_if false w = refl

-- which words are long variables
pub is_long_is : (w : List ℕ) → is_long (other_lexeme w) ≡ ((nat_lt 64 (length w) && is_lower (slice_index w 0)) && list_all is_word_byte w)
is_long_is w =
    let lower = is_lower (slice_index w 0) in
    let word = list_all is_word_byte w in
    let Goal : Bool → Type 0 = λ b. nat_lt 64 (length w) ≡ b → (is_variable w && b) ≡ ((b && lower) && word) in
    long_if (is_variable w) w ∙ elim (nat_lt 64 (length w)) as Goal [
      | true ↦ λ is. ap (λ v. v && true) (is_variable-long w (grind (arith, nat_tests))) ∙ plain (lower && word)
      | false ↦ λ is. none (is_variable w)
    ] refl
  where
    plain : (x : Bool) → (x && true) ≡ x
    plain true = refl
    plain false = refl

    none : (x : Bool) → (x && false) ≡ false
    none true = refl
    none false = refl

-- a name is a short variable
pub IsShortVariable-name : (w : List ℕ) → is_name w ≡ true → IsShortVariable w (letter w)
IsShortVariable-name w h =
    let both = and_both (is_variable w) (nat_le (length w) 64) (sym (is_name-is w) ∙ h) in
    let is : other_lexeme w ≡ Variable w = ap (λ b. cond b (Variable w) Foreign) both.0 in
    let low = both.1 in
    record { is = is; short = ap is_long is ∙ (grind (arith, nat_tests)); tree = refl }

-- a word that is no name is a long variable or stands in no formula
pub refused : (w : List ℕ) → is_name w ≡ false → (is_long (other_lexeme w) ≡ false → other_lexeme w ≡ Foreign) × (is_long (other_lexeme w) ≡ true → other_lexeme w ≡ Variable w)
refused w h =
    let Goal : Bool → Type 0 = λ b. is_variable w ≡ b → (is_long (cond b (Variable w) Foreign) ≡ false → cond b (Variable w) Foreign ≡ Foreign) × (is_long (cond b (Variable w) Foreign) ≡ true → cond b (Variable w) Foreign ≡ Variable w) in
    elim (is_variable w) as Goal [
      | true ↦ λ is. (λ short. let none = sym (ap (λ b. b && nat_le (length w) 64) is) ∙ sym (is_name-is w) ∙ h in absurd (grind (arith, nat_tests)), λ long. refl)
      | false ↦ λ is. (λ short. refl, λ long. absurd (false≢true long))
    ] refl

pub true_unless : (b : Bool) → (b ≡ false → ⊥) → b ≡ true
true_unless true h = refl
true_unless false h = absurd (h refl)
