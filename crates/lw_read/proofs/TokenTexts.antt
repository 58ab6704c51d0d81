-- What stands at the front of bytes, by the rule of tokens: the longest token, white space or a comment, or none of them.
use Rattle.std.proofs.Common.{Some, nat_eq, find, ◌≡◌, ℕ, zero, suc, ◌+◌, ◌<◌, ◌≤◌, ◌==◌, Bool, true, false, ◌&&◌, not, List, [], ◌∷◌, ◌++◌, length, take, drop, take_while, cond, slice_index, get_or, ◌⊎◌, inl, inr, refl, sym, ◌∙◌, ap, subst, arith, nat_le, nat_lt}
use Rattle.std.proofs.lemmas.List.{append_assoc, get_or_past, take_more, length-take-le, take-append-drop, take-take}
use Rattle.std.proofs.lemmas.List.Folds.{length-prefix_len}
use Rattle.std.proofs.lemmas.Bool.{false≢true, cases_lt}
use Rattle.std.proofs.lemmas.Bool.Decides.{nat_tests}
use Rattle.std.proofs.lemmas.Slice.Eq.{bytes_eq-Decides}
use Rattle.std.specs.List.{prefix_len, list_all, starts_with, Contains}
use Rattle.std.specs.Option.{option_map_or}
use Rattle.lw_formula.specs.Name.{is_digit, is_word_byte}
use Rattle.lw_read.specs.declared.lexer.Front.{Front}
use Rattle.lw_read.specs.declared.lexer.Front.TheVariants.{Blank, Piece, Wrong}
use Rattle.lw_read.specs.declared.lexer.TokenKind.{TokenKind}
use Rattle.lw_read.specs.declared.lexer.TokenKind.TheVariants.{Word, Number, Text, Symbol, LongWord, BigNumber, Bad, Stop}
use Rattle.lw_read.specs.Tokens.{is_space, is_comment_byte, is_letter, is_text_byte, symbols, symbol_length, decimal, word_front, number_front, quoted_front, symbol_front, front_of}
use Rattle.lw_read.specs.TokenRule.{IsWord, IsNumber, IsQuoted, IsTokenText}
use Rattle.lw_read.proofs.NameTests.{and_both}
use Rattle.lw_read.proofs.TokenSteps.{letter-word}

-- a test that each of a list passes, one of it passes
contained : {X : Type 0} (p : X → Bool) (xs : List X) (x : X) → list_all p xs ≡ true → (k : ℕ) → k < length xs → get_or xs k x ≡ x → p x ≡ true
contained p [] x all k = λ h is. absurd (omega arith)
contained p (y ∷ ys) x all zero = λ h is. subst (λ z. p z ≡ true) is (and_both (p y) (list_all p ys) all).0
contained p (y ∷ ys) x all (suc k) = λ h is. contained p ys x (and_both (p y) (list_all p ys) all).1 k (omega arith) is

-- a byte that a symbol may begin with
abbrev begins_symbol : ℕ → Bool
begins_symbol b = not (is_space b) && not (b == 35) && not (is_letter b) && not (is_digit b) && not (b == 34)

-- no symbol is empty, and none begins like another token
abbrev is_apart : List ℕ → Bool
is_apart [] = false
is_apart (b ∷ bytes) = begins_symbol b

symbols-apart : list_all is_apart symbols ≡ true
unfolding symbols
symbols-apart = refl

symbol-apart : (bytes : List ℕ) → Contains symbols bytes → is_apart bytes ≡ true
symbol-apart bytes is = contained is_apart symbols bytes symbols-apart is.0 is.1 is.2

-- what a token of the kind begins with
abbrev Begins : TokenKind → ℕ → Type 0
Begins Word b = is_letter b ≡ true
Begins LongWord b = is_letter b ≡ true
Begins Number b = is_digit b ≡ true
Begins BigNumber b = is_digit b ≡ true
Begins Text b = b ≡ 34
Begins Symbol b = begins_symbol b ≡ true
Begins Bad b = ⊥
Begins Stop b = ⊥

-- no token is empty
pub no-token : (kind : TokenKind) → IsTokenText kind [] → ⊥
no-token Word is = is.0
no-token LongWord is = is.0
no-token Number is = absurd (let h = is.0.0 in omega arith)
no-token BigNumber is = absurd (let h = is.0.0 in omega arith)
no-token Text is = let same = is.2 in absurd (cc)
no-token Symbol is = false≢true (symbol-apart [] is)
no-token Bad is = is
no-token Stop is = is

begins : (kind : TokenKind) (b : ℕ) (bytes : List ℕ) → IsTokenText kind (b ∷ bytes) → Begins kind b
begins Word b bytes is = is.0.0
begins LongWord b bytes is = is.0.0
begins Number b bytes is = (and_both (is_digit b) (list_all is_digit bytes) is.0.1).0
begins BigNumber b bytes is = (and_both (is_digit b) (list_all is_digit bytes) is.0.1).0
begins Text b bytes is = ap (λ xs. slice_index xs 0) is.2
begins Symbol b bytes is = symbol-apart (b ∷ bytes) is
begins Bad b bytes is = is
begins Stop b bytes is = is

-- no token begins at the front of the bytes
abbrev pub NoToken : List ℕ → Type 0
NoToken bytes = (kind : TokenKind) (m : ℕ) → m ≤ length bytes → IsTokenText kind (take m bytes) → ⊥

-- the first m bytes of the front are a token, which is no longer than n
abbrev pub Longest : List ℕ → ℕ → Type 0
Longest bytes n = (kind : TokenKind) (m : ℕ) → m ≤ length bytes → IsTokenText kind (take m bytes) → m ≤ n

-- where no kind's beginning fits the first byte, no token begins
none-begins : (b : ℕ) (bytes : List ℕ) → ((kind : TokenKind) → Begins kind b → ⊥) → NoToken (b ∷ bytes)
none-begins b bytes never kind zero h is = no-token kind is
none-begins b bytes never kind (suc m) h is = never kind (begins kind b (take m bytes) is)

-- the bytes at the front that pass a test pass it, and are the most that do
pub run-passes : (p : ℕ → Bool) (xs : List ℕ) → list_all p (take (prefix_len p xs) xs) ≡ true
run-passes p [] = refl
run-passes p (x ∷ xs) =
    let rest = run-passes p xs in
    let Goal : Bool → Type 0 = λ b. p x ≡ b → list_all p (take (cond b (1 + prefix_len p xs) 0) (x ∷ xs)) ≡ true in
    elim (p x) as Goal [
      | true ↦ λ is. let one : 1 + prefix_len p xs ≡ suc (prefix_len p xs) = omega arith in
          ap (λ n. list_all p (take n (x ∷ xs))) one ∙ ap (λ b. b && list_all p (take (prefix_len p xs) xs)) is ∙ rest
      | false ↦ λ is. refl
    ] refl

pub run-longest : (p : ℕ → Bool) (xs : List ℕ) (m : ℕ) → m ≤ length xs → list_all p (take m xs) ≡ true → m ≤ prefix_len p xs
run-longest p xs zero h all = omega arith
run-longest p [] (suc m) h all = absurd (omega arith)
run-longest p (x ∷ xs) (suc m) h all =
    let both = and_both (p x) (list_all p (take m xs)) all in
    let rest = run-longest p xs m (omega arith) both.1 in
    let is = ap (λ b. cond b (1 + prefix_len p xs) 0) both.0 in
    omega arith

-- what the front says is so by the rule
abbrev pub Says : List ℕ → Front → Type 0
Says bytes (Blank n) = ((n ≡ 1) × (is_space (slice_index bytes 0) ≡ true) ⊎ ((n ≡ prefix_len is_comment_byte bytes) × (slice_index bytes 0 ≡ 35))) × NoToken bytes
Says bytes (Piece kind n) = IsTokenText kind (take n bytes) × Longest bytes n
Says bytes Wrong = (is_space (slice_index bytes 0) ≡ false) × ((slice_index bytes 0 == 35) ≡ false) × NoToken bytes

abbrev IsAnswer : List ℕ → Bool → Front → Front → Type 0
IsAnswer bytes c f g = (c ≡ true → Says bytes f) → (c ≡ false → Says bytes g) → Says bytes (cond c f g)

either : (bytes : List ℕ) (c : Bool) (f g : Front) → IsAnswer bytes c f g
either bytes true f g = λ h k. h refl
either bytes false f g = λ h k. k refl

space-says : (b : ℕ) (bytes : List ℕ) → is_space b ≡ true → Says (b ∷ bytes) (Blank 1)
space-says b bytes h = (inl (refl, h), none-begins b bytes never)
  where
    never : (kind : TokenKind) → Begins kind b → ⊥
    never Word is = absurd (grind arith)
    never LongWord is = absurd (grind arith)
    never Number is = absurd (grind arith)
    never BigNumber is = absurd (grind arith)
    never Text is = absurd (grind arith)
    never Symbol is = absurd (grind arith)
    never Bad is = is
    never Stop is = is

comment-says : (b : ℕ) (bytes : List ℕ) → (b == 35) ≡ true → Says (b ∷ bytes) (Blank (length (take_while is_comment_byte (b ∷ bytes))))
comment-says b bytes h = (inr (length-prefix_len is_comment_byte (b ∷ bytes), grind (arith, nat_tests)), none-begins b bytes never)
  where
    never : (kind : TokenKind) → Begins kind b → ⊥
    never Word is = absurd (grind arith)
    never LongWord is = absurd (grind arith)
    never Number is = absurd (grind arith)
    never BigNumber is = absurd (grind arith)
    never Text is = absurd (grind arith)
    never Symbol is = absurd (grind arith)
    never Bad is = is
    never Stop is = is

-- a token whose bytes are a run of those that pass a test is no longer than the run
run-bound : (p : ℕ → Bool) (bytes : List ℕ) (m : ℕ) → m ≤ length bytes → list_all p (take m bytes) ≡ true → m ≤ length (take_while p bytes)
run-bound p bytes m h all =
    let low = run-longest p bytes m h all in
    let is = length-prefix_len p bytes in
    omega arith

word-longest : (b : ℕ) (bytes : List ℕ) → is_letter b ≡ true → Longest (b ∷ bytes) (length (take_while is_word_byte (b ∷ bytes)))
word-longest b bytes h kind zero low is = omega arith
word-longest b bytes h kind (suc m) low is = each kind is
  where
    within : IsWord (b ∷ take m bytes) → suc m ≤ length (take_while is_word_byte (b ∷ bytes))
    within word = run-bound is_word_byte (b ∷ bytes) (suc m) low (ap (λ c. c && list_all is_word_byte (take m bytes)) (letter-word b h) ∙ word.1)

    each : (kind : TokenKind) → IsTokenText kind (b ∷ take m bytes) → suc m ≤ length (take_while is_word_byte (b ∷ bytes))
    each Word is = within is.0
    each LongWord is = within is.0
    each Number is = let first = begins Number b (take m bytes) is in absurd (grind arith)
    each BigNumber is = let first = begins BigNumber b (take m bytes) is in absurd (grind arith)
    each Text is = let first = begins Text b (take m bytes) is in absurd (grind arith)
    each Symbol is = let first = begins Symbol b (take m bytes) is in absurd (grind arith)
    each Bad is = absurd is
    each Stop is = absurd is

-- a run at the front is what its length cuts off
run-cut : (p : ℕ → Bool) (bytes : List ℕ) → take (length (take_while p bytes)) bytes ≡ take_while p bytes
run-cut p bytes = ap (λ n. take n bytes) (length-prefix_len p bytes)

word-is : (b : ℕ) (bytes : List ℕ) → is_letter b ≡ true → IsWord (take_while is_word_byte (b ∷ bytes))
word-is b bytes h =
    let all = run-passes is_word_byte (b ∷ bytes) in
    let one : prefix_len is_word_byte (b ∷ bytes) ≡ suc (prefix_len is_word_byte bytes) = ap (λ c. cond c (1 + prefix_len is_word_byte bytes) 0) (letter-word b h) ∙ omega arith in
    let is : take_while is_word_byte (b ∷ bytes) ≡ b ∷ take_while is_word_byte bytes = ap (λ n. take n (b ∷ bytes)) one in
    subst IsWord (sym is) (h, run-passes is_word_byte bytes)

word-says : (b : ℕ) (bytes : List ℕ) → is_letter b ≡ true → Says (b ∷ bytes) (word_front (take_while is_word_byte (b ∷ bytes)))
word-says b bytes h =
    let word = take_while is_word_byte (b ∷ bytes) in
    let cut = run-cut is_word_byte (b ∷ bytes) in
    let longest = word-longest b bytes h in
    let Goal : Bool → Type 0 = λ c. nat_le (length word) 64 ≡ c → Says (b ∷ bytes) (Piece (cond c Word LongWord) (length word)) in
    elim (nat_le (length word) 64) as Goal [
      | true ↦ λ low. (subst (IsTokenText Word) (sym cut) (word-is b bytes h, grind (arith, nat_tests)), longest)
      | false ↦ λ high. (subst (IsTokenText LongWord) (sym cut) (word-is b bytes h, grind (arith, nat_tests)), longest)
    ] refl

number-longest : (b : ℕ) (bytes : List ℕ) → is_digit b ≡ true → Longest (b ∷ bytes) (length (take_while is_digit (b ∷ bytes)))
number-longest b bytes h kind zero low is = omega arith
number-longest b bytes h kind (suc m) low is = each kind is
  where
    each : (kind : TokenKind) → IsTokenText kind (b ∷ take m bytes) → suc m ≤ length (take_while is_digit (b ∷ bytes))
    each Word is = let first = begins Word b (take m bytes) is in absurd (grind arith)
    each LongWord is = let first = begins LongWord b (take m bytes) is in absurd (grind arith)
    each Number is = run-bound is_digit (b ∷ bytes) (suc m) low is.0.1
    each BigNumber is = run-bound is_digit (b ∷ bytes) (suc m) low is.0.1
    each Text is = let first = begins Text b (take m bytes) is in absurd (grind arith)
    each Symbol is = let first = begins Symbol b (take m bytes) is in absurd (grind arith)
    each Bad is = absurd is
    each Stop is = absurd is

number-is : (b : ℕ) (bytes : List ℕ) → is_digit b ≡ true → IsNumber (take_while is_digit (b ∷ bytes))
number-is b bytes h =
    let len = length-prefix_len is_digit (b ∷ bytes) in
    let one : prefix_len is_digit (b ∷ bytes) ≡ 1 + prefix_len is_digit bytes = ap (λ c. cond c (1 + prefix_len is_digit bytes) 0) h in
    (omega arith, run-passes is_digit (b ∷ bytes))

number-says : (b : ℕ) (bytes : List ℕ) → is_digit b ≡ true → Says (b ∷ bytes) (number_front (take_while is_digit (b ∷ bytes)))
number-says b bytes h =
    let digits = take_while is_digit (b ∷ bytes) in
    let cut = run-cut is_digit (b ∷ bytes) in
    let longest = number-longest b bytes h in
    let Goal : Bool → Type 0 = λ c. nat_lt (decimal digits) 18446744073709551616 ≡ c → Says (b ∷ bytes) (Piece (cond c Number BigNumber) (length digits)) in
    elim (nat_lt (decimal digits) 18446744073709551616) as Goal [
      | true ↦ λ low. (subst (IsTokenText Number) (sym cut) (number-is b bytes h, grind (arith, nat_tests)), longest)
      | false ↦ λ high. (subst (IsTokenText BigNumber) (sym cut) (number-is b bytes h, grind (arith, nat_tests)), longest)
    ] refl

-- bytes that pass a test before one that doesn't are the run at the front
pub run-before : (p : ℕ → Bool) (held : List ℕ) (b : ℕ) (rest : List ℕ) → list_all p held ≡ true → p b ≡ false → prefix_len p (held ++ b ∷ rest) ≡ length held
run-before p [] b rest all stops = ap (λ c. cond c (1 + prefix_len p rest) 0) stops
run-before p (x ∷ held) b rest all stops =
    let both = and_both (p x) (list_all p held) all in
    let more = run-before p held b rest both.1 stops in
    ap (λ c. cond c (1 + prefix_len p (held ++ b ∷ rest)) 0) both.0 ∙ ap (λ n. 1 + n) more ∙ omega arith

index-behind : (held : List ℕ) (b : ℕ) (rest : List ℕ) → slice_index (held ++ b ∷ rest) (length held) ≡ b
index-behind [] b rest = refl
index-behind (x ∷ held) b rest = index-behind held b rest

-- a text between quotes ends at the first quote
record IsEnded (bytes : List ℕ) (m : ℕ) : Type 0 where
  len : m ≡ length (take_while is_text_byte bytes) + 1
  quote : slice_index bytes (length (take_while is_text_byte bytes)) ≡ 34

ended : (b : ℕ) (bytes : List ℕ) (m : ℕ) → m ≤ length bytes → IsQuoted (b ∷ take m bytes) → IsEnded bytes m
ended b bytes m h is =
    let held = is.0 in
    let inner : take m bytes ≡ held ++ 34 ∷ [] = ap (drop 1) is.2 in
    let whole : bytes ≡ held ++ 34 ∷ drop m bytes = sym (take-append-drop m bytes) ∙ ap (λ xs. xs ++ drop m bytes) inner ∙ append_assoc held (34 ∷ []) (drop m bytes) in
    let run : prefix_len is_text_byte bytes ≡ length held = ap (prefix_len is_text_byte) whole ∙ run-before is_text_byte held 34 (drop m bytes) is.1 refl in
    let len = length-prefix_len is_text_byte bytes in
    let count : m ≡ length held + 1 = sym (length-take-le m bytes h) ∙ ap length inner ∙ long held in
    record {
      len = omega arith;
      quote = ap (slice_index bytes) (len ∙ run) ∙ ap (λ xs. slice_index xs (length held)) whole ∙ index-behind held 34 (drop m bytes);
    }
  where
    long : (xs : List ℕ) → length (xs ++ 34 ∷ []) ≡ length xs + 1
    long [] = refl
    long (x ∷ xs) = let more = long xs in omega arith

-- behind a quote the only token is a text
quote-token : (bytes : List ℕ) (kind : TokenKind) (m : ℕ) → m ≤ suc (length bytes) → IsTokenText kind (take m (34 ∷ bytes)) → (n : ℕ) × (m ≡ suc n) × IsEnded bytes n
quote-token bytes kind zero h is = absurd (no-token kind is)
quote-token bytes kind (suc m) h is = each kind is
  where
    each : (kind : TokenKind) → IsTokenText kind (34 ∷ take m bytes) → (n : ℕ) × (suc m ≡ suc n) × IsEnded bytes n
    each Text is = (m, refl, ended 34 bytes m (omega arith) is)
    each Word is = absurd (false≢true is.0.0)
    each LongWord is = absurd (false≢true is.0.0)
    each Number is = absurd (false≢true (begins Number 34 (take m bytes) is))
    each BigNumber is = absurd (false≢true (begins BigNumber 34 (take m bytes) is))
    each Symbol is = absurd (false≢true (begins Symbol 34 (take m bytes) is))
    each Bad is = absurd is
    each Stop is = absurd is

quoted-says : (bytes : List ℕ) → Says (34 ∷ bytes) (quoted_front (length (take_while is_text_byte bytes)) bytes)
quoted-says bytes =
    let held = length (take_while is_text_byte bytes) in
    either (34 ∷ bytes) (slice_index bytes held == 34) (Piece Text (held + 2)) Wrong
    (λ yes. (
      subst (λ n. IsQuoted (take n (34 ∷ bytes))) {x = suc (held + 1)} (omega arith) (is-quoted (grind (arith, nat_tests))),
      λ kind m h is. let token = quote-token bytes kind m h is in let len = token.2.len in let more = token.1 in omega arith,
    ))
    (λ no. (refl, refl, λ kind m h is. let token = quote-token bytes kind m h is in let quote = token.2.quote in absurd (grind (arith, nat_tests))))
  where
    is-quoted : slice_index bytes (length (take_while is_text_byte bytes)) ≡ 34 → IsQuoted (take (suc (length (take_while is_text_byte bytes) + 1)) (34 ∷ bytes))
    is-quoted quote =
        let held = length (take_while is_text_byte bytes) in
        let within : held < length bytes = elim (cases_lt held (length bytes)) [ inl lt ↦ lt | inr past ↦ let none = get_or_past bytes held 0 past in absurd (grind arith) ] in
        let more = take_more bytes held 0 within in (
          take_while is_text_byte bytes,
          run-passes is_text_byte bytes,
          ap (λ xs. 34 ∷ xs) (more ∙ ap (λ xs. xs ++ slice_index bytes held ∷ []) (run-cut is_text_byte bytes) ∙ ap (λ b. take_while is_text_byte bytes ++ b ∷ []) quote),
        )

-- none of the words begins with one that stands before it
abbrev are_lasting : List (List ℕ) → Bool
are_lasting [] = true
are_lasting (w ∷ words) = list_all (λ v. not (starts_with nat_eq v w)) words && are_lasting words

symbols-lasting : are_lasting symbols ≡ true
unfolding symbols
symbols-lasting = refl

-- the length of the first of the words that the bytes begin with, or 0
abbrev first_len : List ℕ → List (List ℕ) → ℕ
first_len bytes words = option_map_or length (find (starts_with nat_eq bytes) words) 0

first-there : (bytes : List ℕ) (words : List (List ℕ)) → 0 < first_len bytes words → Contains words (take (first_len bytes words) bytes)
first-there bytes [] = λ h. absurd (omega arith)
first-there bytes (w ∷ words) =
    let len = λ (c : Bool). option_map_or length (cond c (Some w) (find (starts_with nat_eq bytes) words)) 0 in
    let Goal : Bool → Type 0 = λ c. starts_with nat_eq bytes w ≡ c → 0 < len c → Contains (w ∷ words) (take (len c) bytes) in
    elim (starts_with nat_eq bytes w) as Goal [
      | true ↦ λ is h. (0, omega arith, (bytes_eq-Decides w (take (length w) bytes)).0 is)
      | false ↦ λ is h. let there = first-there bytes words h in (suc there.0, omega (arith, there.1), there.2)
    ] refl

not-true : (b : Bool) → not b ≡ true → b ≡ true → ⊥
not-true true h k = false≢true h
not-true false h k = false≢true k

first-longest : (bytes : List ℕ) (words : List (List ℕ)) (m : ℕ) → are_lasting words ≡ true → m ≤ length bytes → (k : ℕ) → k < length words → get_or words k (take m bytes) ≡ take m bytes → m ≤ first_len bytes words
first-longest bytes [] m lasting h k low is = absurd (omega arith)
first-longest bytes (w ∷ words) m lasting h k low is =
    let len = λ (c : Bool). option_map_or length (cond c (Some w) (find (starts_with nat_eq bytes) words)) 0 in
    let Goal : Bool → Type 0 = λ c. starts_with nat_eq bytes w ≡ c → m ≤ len c in
    elim (starts_with nat_eq bytes w) as Goal [
      | true ↦ λ fits. elim (cases_lt (length w) m) [ inl longer ↦ absurd (never k low is fits longer) | inr most ↦ most ]
      | false ↦ λ fits. rest (λ j low is. first-longest bytes words m (and_both (list_all (λ v. not (starts_with nat_eq v w)) words) (are_lasting words) lasting).1 h j low is) k low is fits
    ] refl
  where
    -- a longer word that stands behind w would begin with it
    never : (k : ℕ) → k < suc (length words) → get_or (w ∷ words) k (take m bytes) ≡ take m bytes → starts_with nat_eq bytes w ≡ true → length w < m → ⊥
    never zero low is fits longer = let len = ap length is ∙ length-take-le m bytes h in absurd (omega arith)
    never (suc k) low is fits longer =
        let same : w ≡ take (length w) bytes = (bytes_eq-Decides w (take (length w) bytes)).0 fits in
        let part : w ≡ take (length w) (take m bytes) = same ∙ sym (take-take (length w) m bytes (omega arith)) in
        let begins : starts_with nat_eq (take m bytes) w ≡ true = (bytes_eq-Decides w (take (length w) (take m bytes))).1 part in
        not-true (starts_with nat_eq (take m bytes) w) (contained (λ v. not (starts_with nat_eq v w)) words (take m bytes) (and_both (list_all (λ v. not (starts_with nat_eq v w)) words) (are_lasting words) lasting).0 k (omega arith) is) begins

    rest : ((j : ℕ) → j < length words → get_or words j (take m bytes) ≡ take m bytes → m ≤ first_len bytes words) → (k : ℕ) → k < suc (length words) → get_or (w ∷ words) k (take m bytes) ≡ take m bytes → starts_with nat_eq bytes w ≡ false → m ≤ first_len bytes words
    rest more zero low is fits =
        let len : length w ≡ m = ap length is ∙ length-take-le m bytes h in
        let same : w ≡ take (length w) bytes = is ∙ ap (λ n. take n bytes) (sym len) in
        absurd (false≢true (sym fits ∙ (bytes_eq-Decides w (take (length w) bytes)).1 same))
    rest more (suc k) low is fits = more k (omega arith) is

symbol-there : (bytes : List ℕ) → 0 < symbol_length bytes → Contains symbols (take (symbol_length bytes) bytes)
unfolding symbol_length
symbol-there bytes h = first-there bytes symbols h

symbol-longest : (bytes : List ℕ) (m : ℕ) → m ≤ length bytes → Contains symbols (take m bytes) → m ≤ symbol_length bytes
unfolding symbol_length
symbol-longest bytes m h is = first-longest bytes symbols m symbols-lasting h is.0 is.1 is.2

-- behind no other beginning the only token is a symbol
symbol-token : (b : ℕ) (bytes : List ℕ) → is_letter b ≡ false → is_digit b ≡ false → (b == 34) ≡ false → (kind : TokenKind) (m : ℕ) → m ≤ suc (length bytes) → IsTokenText kind (take m (b ∷ bytes)) → (0 < m) × (m ≤ symbol_length (b ∷ bytes))
symbol-token b bytes letter digit quote kind zero h is = absurd (no-token kind is)
symbol-token b bytes letter digit quote kind (suc m) h is = (omega arith, each kind is)
  where
    each : (kind : TokenKind) → IsTokenText kind (b ∷ take m bytes) → suc m ≤ symbol_length (b ∷ bytes)
    each Symbol is = symbol-longest (b ∷ bytes) (suc m) h is
    each Word is = absurd (false≢true (sym letter ∙ is.0.0))
    each LongWord is = absurd (false≢true (sym letter ∙ is.0.0))
    each Number is = absurd (false≢true (sym digit ∙ begins Number b (take m bytes) is))
    each BigNumber is = absurd (false≢true (sym digit ∙ begins BigNumber b (take m bytes) is))
    each Text is = let first = begins Text b (take m bytes) is in absurd (grind (arith, nat_tests))
    each Bad is = absurd is
    each Stop is = absurd is

symbol-says : (b : ℕ) (bytes : List ℕ) → is_space b ≡ false → (b == 35) ≡ false → is_letter b ≡ false → is_digit b ≡ false → (b == 34) ≡ false → Says (b ∷ bytes) (symbol_front (symbol_length (b ∷ bytes)))
symbol-says b bytes space hash letter digit quote =
    let len = symbol_length (b ∷ bytes) in
    let token = symbol-token b bytes letter digit quote in
    either (b ∷ bytes) (len == 0) Wrong (Piece Symbol len)
    (λ nothing. (space, hash, λ kind m h is. let found = token kind m h is in absurd (grind (arith, nat_tests))))
    (λ there. (symbol-there (b ∷ bytes) (grind (arith, nat_tests)), λ kind m h is. (token kind m h is).1))

-- what stands at the front of bytes is what the lexer says
pub front-says : (b : ℕ) (bytes : List ℕ) → Says (b ∷ bytes) (front_of (b ∷ bytes))
unfolding front_of
front-says b bytes =
    let all = b ∷ bytes in
    either all (is_space b) _ _ (space-says b bytes) (λ space.
    either all (b == 35) _ _ (comment-says b bytes) (λ hash.
    either all (is_letter b) _ _ (word-says b bytes) (λ letter.
    either all (is_digit b) _ _ (number-says b bytes) (λ digit.
    either all (b == 34) _ _ (λ quote. let is : 34 ≡ b = grind (arith, nat_tests) in subst (λ c. Says (c ∷ bytes) (quoted_front (length (take_while is_text_byte bytes)) bytes)) is (quoted-says bytes)) (λ quote.
    symbol-says b bytes space hash letter digit quote)))))

-- the kind of a token is told by its bytes
abbrev kind_back : List ℕ → TokenKind
kind_back [] = Stop
kind_back (b ∷ bytes) =
    cond (is_letter b) (cond (nat_le (length (b ∷ bytes)) 64) Word LongWord)
    (cond (is_digit b) (cond (nat_lt (decimal (b ∷ bytes)) 18446744073709551616) Number BigNumber)
    (cond (b == 34) Text Symbol))

back : (b : ℕ) (bytes : List ℕ) (kind : TokenKind) → IsTokenText kind (b ∷ bytes) → kind_back (b ∷ bytes) ≡ kind
back b bytes Word is =
    let low : nat_le (length (b ∷ bytes)) 64 ≡ true = let h = is.1 in grind (arith, nat_tests) in
    ap (λ c. cond c (cond (nat_le (length (b ∷ bytes)) 64) Word LongWord) (cond (is_digit b) (cond (nat_lt (decimal (b ∷ bytes)) 18446744073709551616) Number BigNumber) (cond (b == 34) Text Symbol))) is.0.0
    ∙ ap (λ c. cond c Word LongWord) low
back b bytes LongWord is =
    let high : nat_le (length (b ∷ bytes)) 64 ≡ false = let h = is.1 in grind (arith, nat_tests) in
    ap (λ c. cond c (cond (nat_le (length (b ∷ bytes)) 64) Word LongWord) (cond (is_digit b) (cond (nat_lt (decimal (b ∷ bytes)) 18446744073709551616) Number BigNumber) (cond (b == 34) Text Symbol))) is.0.0
    ∙ ap (λ c. cond c Word LongWord) high
back b bytes Number is =
    let digit = begins Number b bytes is in
    let letter : is_letter b ≡ false = grind arith in
    let low : nat_lt (decimal (b ∷ bytes)) 18446744073709551616 ≡ true = let h = is.1 in grind (arith, nat_tests) in
    ap (λ c. cond c (cond (nat_le (length (b ∷ bytes)) 64) Word LongWord) (cond (is_digit b) (cond (nat_lt (decimal (b ∷ bytes)) 18446744073709551616) Number BigNumber) (cond (b == 34) Text Symbol))) letter
    ∙ ap (λ c. cond c (cond (nat_lt (decimal (b ∷ bytes)) 18446744073709551616) Number BigNumber) (cond (b == 34) Text Symbol)) digit
    ∙ ap (λ c. cond c Number BigNumber) low
back b bytes BigNumber is =
    let digit = begins BigNumber b bytes is in
    let letter : is_letter b ≡ false = grind arith in
    let high : nat_lt (decimal (b ∷ bytes)) 18446744073709551616 ≡ false = let h = is.1 in grind (arith, nat_tests) in
    ap (λ c. cond c (cond (nat_le (length (b ∷ bytes)) 64) Word LongWord) (cond (is_digit b) (cond (nat_lt (decimal (b ∷ bytes)) 18446744073709551616) Number BigNumber) (cond (b == 34) Text Symbol))) letter
    ∙ ap (λ c. cond c (cond (nat_lt (decimal (b ∷ bytes)) 18446744073709551616) Number BigNumber) (cond (b == 34) Text Symbol)) digit
    ∙ ap (λ c. cond c Number BigNumber) high
back b bytes Text is =
    let quote = begins Text b bytes is in
    let same : kind_back (b ∷ bytes) ≡ kind_back (34 ∷ bytes) = ap (λ c. kind_back (c ∷ bytes)) quote in
    same
back b bytes Symbol is =
    let first = begins Symbol b bytes is in
    let letter : is_letter b ≡ false = grind arith in
    let digit : is_digit b ≡ false = grind arith in
    let quote : (b == 34) ≡ false = grind arith in
    ap (λ c. cond c (cond (nat_le (length (b ∷ bytes)) 64) Word LongWord) (cond (is_digit b) (cond (nat_lt (decimal (b ∷ bytes)) 18446744073709551616) Number BigNumber) (cond (b == 34) Text Symbol))) letter
    ∙ ap (λ c. cond c (cond (nat_lt (decimal (b ∷ bytes)) 18446744073709551616) Number BigNumber) (cond (b == 34) Text Symbol)) digit
    ∙ ap (λ c. cond c Text Symbol) quote
back b bytes Bad is = absurd is
back b bytes Stop is = absurd is

pub same-kind : (bytes : List ℕ) (kind other : TokenKind) → IsTokenText kind bytes → IsTokenText other bytes → kind ≡ other
same-kind [] kind other is also = absurd (no-token kind is)
same-kind (b ∷ bytes) kind other is also = sym (back b bytes kind is) ∙ back b bytes other also
