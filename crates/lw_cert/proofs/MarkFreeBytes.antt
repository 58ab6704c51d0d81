-- Bytes that lack a mark, as a space or a line feed: those of numbers and of words.
use Rattle.std.proofs.Common.{◌≡◌, ℕ, zero, suc, ◌<◌, ◌/◌, ◌%◌, ◌&&◌, ◌==◌, not, nat_eq, cond, Bool, true, false, List, [], ◌∷◌, ◌++◌, refl, ◌∙◌, ap, arith}
use Rattle.std.proofs.lemmas.Bool.{false≢true}
use Rattle.std.proofs.lemmas.Bool.Decides.{nat_tests}
use Rattle.std.proofs.lemmas.List.Folds.{list_all-append}
use Rattle.std.specs.Fmt.{digit_glyph, digits_onto, digits, decimal}
use Rattle.std.specs.List.{list_all}
use Rattle.lw_formula.specs.Name.{is_word_byte, is_name}

pub and-first : (a b : Bool) → (a && b) ≡ true → a ≡ true
and-first true b h = refl
and-first false b h = absurd (false≢true h)

pub and-second : (a b : Bool) → (a && b) ≡ true → b ≡ true
and-second true b h = h
and-second false b h = absurd (false≢true h)

-- no byte is the mark
abbrev pub lacks : ℕ → List ℕ → Bool
lacks mark bytes = list_all (λ b. not (nat_eq b mark)) bytes

pub lacks-append : (mark : ℕ) (xs ys : List ℕ) → lacks mark xs ≡ true → lacks mark ys ≡ true → lacks mark (xs ++ ys) ≡ true
lacks-append mark xs ys h k = list_all-append (λ b. not (nat_eq b mark)) xs ys ∙ ap (λ b. b && lacks mark ys) h ∙ k

lacks-cons : (mark b : ℕ) (xs : List ℕ) → nat_eq b mark ≡ false → lacks mark xs ≡ true → lacks mark (b ∷ xs) ≡ true
lacks-cons mark b xs differs h = ap (λ c. not c && lacks mark xs) differs ∙ h

pub lacks-if : (mark : ℕ) (b : Bool) (xs ys : List ℕ) → lacks mark xs ≡ true → lacks mark ys ≡ true → lacks mark (cond b xs ys) ≡ true
lacks-if mark true xs ys h k = h
lacks-if mark false xs ys h k = k

lacks-glyph : (mark d : ℕ) → mark < 48 → nat_eq (digit_glyph false d) mark ≡ false
lacks-glyph mark d low = grind (arith, nat_tests)

lacks-digits : (mark k n : ℕ) (acc : List ℕ) → mark < 48 → lacks mark acc ≡ true → lacks mark (digits_onto k 10 false n acc) ≡ true
lacks-digits mark zero n acc low h = h
lacks-digits mark (suc k) n acc low h =
    let more = lacks-cons mark (digit_glyph false (n % 10)) acc (lacks-glyph mark (n % 10) low) h in
    lacks-if mark (n / 10 == 0) _ _ more (lacks-digits mark k (n / 10) (digit_glyph false (n % 10) ∷ acc) low more)

-- a number's digits
pub lacks-decimal : (mark n : ℕ) → mark < 48 → lacks mark (decimal n) ≡ true
unfolding digits
lacks-decimal mark n low = lacks-digits mark 64 n [] low refl

-- letters, digits and `_`
pub lacks-word : (mark : ℕ) (p : List ℕ) → mark < 48 → list_all is_word_byte p ≡ true → lacks mark p ≡ true
lacks-word mark [] low all = refl
lacks-word mark (b ∷ p) low all =
    lacks-cons mark b p (other b (and-first (is_word_byte b) (list_all is_word_byte p) all)) (lacks-word mark p low (and-second (is_word_byte b) (list_all is_word_byte p) all))
  where
    other : (b : ℕ) → is_word_byte b ≡ true → nat_eq b mark ≡ false
    other b is = grind (arith, nat_tests)

pub lacks-name : (mark : ℕ) (p : List ℕ) → mark < 48 → is_name p ≡ true → lacks mark p ≡ true
unfolding is_name
lacks-name mark p low is = lacks-word mark p low (and-second _ _ (and-first _ _ (and-first _ _ is)))
