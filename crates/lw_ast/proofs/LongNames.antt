-- Which words are propositional variables, and which are too long: no reserved word is.
use Rattle.std.proofs.Common.{◌≡◌, ℕ, ◌<◌, Bool, true, false, ◌&&◌, ◌||◌, not, cond, nat_eq, nat_lt, nat_le, List, [], ◌∷◌, length, slice_index, refl, sym, ◌∙◌, ap, arith}
use Rattle.std.proofs.lemmas.Bool.Decides.{nat_tests}
use Rattle.std.proofs.lemmas.Bool.{false≢true}
use Rattle.std.specs.List.{list_all, list_any}
use Rattle.std.specs.Str.{bytes_eq}
use lib.Pointwise.{pointwise_long}
use Rattle.lw_formula.specs.Name.{is_lower, is_upper, is_word_byte, reserved_words, is_reserved, is_name}
use Rattle.lw_read.specs.Lexemes.{is_variable}
use Rattle.lw_ast.specs.Trees.{variable}
use Rattle.lw_ast.specs.ScriptLexemes.{Atom, Upper, Foreign, name_sign, is_long}

and_both : (a b : Bool) → (a && b) ≡ true → (a ≡ true) × (b ≡ true)
and_both true b = λ h. (refl, h)
and_both false b = λ h. absurd (false≢true h)

-- a word that is longer than each of these is none of them
none_same : (words : List (List ℕ)) (w : List ℕ) → list_all (λ v. nat_le (length v) 64) words ≡ true → 64 < length w → list_any (λ v. bytes_eq v w) words ≡ false
none_same [] w short long = refl
none_same (v ∷ words) w short long =
    let both = and_both (nat_le (length v) 64) (list_all (λ v. nat_le (length v) 64) words) short in
    let rest = none_same words w both.1 long in
    let Goal : Bool → Type 0 = λ b. bytes_eq v w ≡ b → (b || list_any (λ v. bytes_eq v w) words) ≡ false in
    elim (bytes_eq v w) as Goal [
      | true ↦ λ is. let same = pointwise_long nat_eq v w is in let low = both.0 in absurd (grind (arith, nat_tests))
      | false ↦ λ is. rest
    ] refl

unreserved : (w : List ℕ) → 64 < length w → is_reserved w ≡ false
unfolding is_reserved reserved_words
unreserved w long = none_same reserved_words w refl long

plain : (lower word reserved long : Bool) → (long ≡ true → reserved ≡ false) → (((lower && word) && not reserved) && long) ≡ ((long && lower) && word)
plain lower word true true free = absurd (false≢true (sym (free refl)))
plain true true false true free = refl
plain true false false true free = refl
plain false word false true free = refl
plain true true true false free = refl
plain true true false false free = refl
plain true false reserved false free = refl
plain false word reserved false free = refl

pub long_variable_is : (w : List ℕ) → (is_variable w && nat_lt 64 (length w)) ≡ ((nat_lt 64 (length w) && is_lower (slice_index w 0)) && list_all is_word_byte w)
unfolding is_variable
long_variable_is w = plain (is_lower (slice_index w 0)) (list_all is_word_byte w) (is_reserved w) (nat_lt 64 (length w)) (λ is. unreserved w (grind (arith, nat_tests)))

and_swap : (x c d : Bool) → ((x && c) && d) ≡ ((x && d) && c)
and_swap true true true = refl
and_swap true true false = refl
and_swap true false true = refl
and_swap true false false = refl
and_swap false c d = refl

-- a name is a variable that isn't too long
name_is : (w : List ℕ) → is_name w ≡ (is_variable w && nat_le (length w) 64)
unfolding is_name is_variable
name_is w = and_swap (is_lower (slice_index w 0) && list_all is_word_byte w) (nat_le (length w) 64) (not (is_reserved w))

-- a word that begins with no upper-case letter is a propositional variable or foreign
lower_sign : (line : ℕ) (w : List ℕ) → is_upper (slice_index w 0) ≡ false → name_sign line w ≡ cond (is_variable w) (Atom (variable w)) Foreign
unfolding name_sign
lower_sign line w lower = ap (λ b. cond b (Upper line w) (cond (is_variable w) (Atom (variable w)) Foreign)) lower

pub short_variable : (line : ℕ) (w : List ℕ) → is_upper (slice_index w 0) ≡ false → is_name w ≡ true → (name_sign line w ≡ Atom (variable w)) × (is_long (name_sign line w) ≡ false)
short_variable line w lower named =
    let both = and_both (is_variable w) (nat_le (length w) 64) (sym (name_is w) ∙ named) in
    let is : name_sign line w ≡ Atom (variable w) = lower_sign line w lower ∙ ap (λ b. cond b (Atom (variable w)) Foreign) both.0 in
    let low = both.1 in
    (is, ap is_long is ∙ grind (arith, nat_tests))

pub no_variable : (line : ℕ) (w : List ℕ) → is_upper (slice_index w 0) ≡ false → is_name w ≡ false → (is_variable w && nat_lt 64 (length w)) ≡ false → name_sign line w ≡ Foreign
no_variable line w lower unnamed short =
    lower_sign line w lower ∙ ap (λ b. cond b (Atom (variable w)) Foreign) (neither (is_variable w) (sym (name_is w) ∙ unnamed) short)
  where
    neither : (v : Bool) → (v && nat_le (length w) 64) ≡ false → (v && nat_lt 64 (length w)) ≡ false → v ≡ false
    neither true low high = absurd (grind (arith, nat_tests))
    neither false low high = refl
