-- The tokens of a text, step by step.
use Rattle.std.proofs.Common.{Some, nat_eq, find, ◌≡◌, ℕ, zero, suc, ◌+◌, ◌-◌, ◌*◌, ◌<◌, ◌≤◌, ◌==◌, Bool, true, false, List, [], ◌∷◌, ◌++◌, length, take, drop, fold, take_while, cond, slice_index, get_or, ◌⊎◌, inl, inr, refl, sym, ◌∙◌, ap, subst, arith, length-drop}
use Rattle.std.proofs.lemmas.List.{take_rest, drop-drop, append_assoc, get_or_past, drop_all}
use Rattle.std.proofs.lemmas.Bool.{cases_lt}
use Rattle.std.proofs.lemmas.List.Folds.{length-prefix_len}
use Rattle.std.proofs.lemmas.Bool.Decides.{nat_tests}
use Rattle.std.specs.List.{prefix_len, starts_with}
use Rattle.std.specs.Option.{option_map_or}
use Rattle.std.proofs.lemmas.List.{length-take}
use Rattle.std.proofs.Math.Numerals.{sub-one}
use lib.Pointwise.{pointwise_long}
use Rattle.lw_formula.specs.Name.{is_digit, is_word_byte}
use Rattle.lw_read.specs.declared.lexer.Front.{Front}
use Rattle.lw_read.specs.declared.lexer.Front.TheVariants.{Blank, Piece, Wrong}
use Rattle.lw_read.specs.declared.lexer.Token.{Token}
use Rattle.lw_read.specs.declared.lexer.TokenKind.{TokenKind}
use Rattle.lw_read.specs.declared.lexer.TokenKind.TheVariants.{Text, Symbol, Bad, Stop}
use Rattle.lw_read.specs.Tokens.{is_space, is_comment_byte, is_letter, is_text_byte, symbols, symbol_length, word_front, number_front, quoted_front, symbol_front, front_of, tokens_at, tokens_from, tokens_of, AreInOrder}

-- more digits write no smaller number
pub fold-grows : (n : ℕ) (bytes : List ℕ) → n ≤ fold (λ (n b : ℕ). n * 10 + (b - 48)) n bytes
fold-grows n [] = omega arith
fold-grows n (b ∷ bytes) = let more = fold-grows (n * 10 + (b - 48)) bytes in omega arith

-- what stands at the front of so many bytes takes one of them at least, and no more than there are
abbrev pub FitsIn : ℕ → Front → Type 0
FitsIn len (Blank n) = (0 < n) × (n ≤ len)
FitsIn len (Piece kind n) = (0 < n) × (n ≤ len)
FitsIn len Wrong = Unit {0}

either : (len : ℕ) (c : Bool) (f g : Front) → (c ≡ true → FitsIn len f) → (c ≡ false → FitsIn len g) → FitsIn len (cond c f g)
either len true f g = λ h k. h refl
either len false f g = λ h k. k refl

prefix_len-le : {X : Type 0} (p : X → Bool) (xs : List X) → prefix_len p xs ≤ length xs
prefix_len-le p [] = omega arith
prefix_len-le p (x ∷ xs) =
    let rest = prefix_len-le p xs in
    elim (p x) as (λ b. cond b (1 + prefix_len p xs) 0 ≤ suc (length xs)) [ true ↦ omega arith | false ↦ omega arith ]

prefix_len-cons : {X : Type 0} (p : X → Bool) (x : X) (xs : List X) → p x ≡ true → 0 < prefix_len p (x ∷ xs)
prefix_len-cons p x xs h = subst (λ b. 0 < cond b (1 + prefix_len p xs) 0) (sym h) (omega arith)

run_fits : (p : ℕ → Bool) (b : ℕ) (bytes : List ℕ) → p b ≡ true → (0 < length (take_while p (b ∷ bytes))) × (length (take_while p (b ∷ bytes)) ≤ suc (length bytes))
run_fits p b bytes h =
    let is = length-prefix_len p (b ∷ bytes) in
    let below = prefix_len-le p (b ∷ bytes) in
    let above = prefix_len-cons p b bytes h in
    (omega arith, omega arith)

-- a letter goes on a word
pub letter-word : (b : ℕ) → is_letter b ≡ true → is_word_byte b ≡ true
letter-word b h = grind arith

word_fits : (b : ℕ) (bytes : List ℕ) → is_letter b ≡ true → FitsIn (suc (length bytes)) (word_front (take_while is_word_byte (b ∷ bytes)))
word_fits b bytes h = run_fits is_word_byte b bytes (letter-word b h)

number_fits : (b : ℕ) (bytes : List ℕ) → is_digit b ≡ true → FitsIn (suc (length bytes)) (number_front (take_while is_digit (b ∷ bytes)))
number_fits b bytes h = run_fits is_digit b bytes h

comment_fits : (b : ℕ) (bytes : List ℕ) → (b == 35) ≡ true → FitsIn (suc (length bytes)) (Blank (length (take_while is_comment_byte (b ∷ bytes))))
comment_fits b bytes h = run_fits is_comment_byte b bytes (grind arith)

quoted_fits : (bytes : List ℕ) → FitsIn (suc (length bytes)) (quoted_front (length (take_while is_text_byte bytes)) bytes)
quoted_fits bytes =
    let held = length (take_while is_text_byte bytes) in
    either _ (slice_index bytes held == 34) (Piece Text (held + 2)) Wrong (λ h. let within = index-within bytes held h in (omega arith, omega arith)) (λ h. tt)
  where
    index-within : (xs : List ℕ) (i : ℕ) → (slice_index xs i == 34) ≡ true → i < length xs
    index-within xs i h = elim (cases_lt i (length xs)) [ inl lt ↦ lt | inr past ↦ let none = get_or_past xs i 0 past in absurd (grind arith) ]

-- the first word that the bytes begin with is no longer than they are
first_fits : (bytes : List ℕ) (words : List (List ℕ)) → option_map_or length (find (starts_with nat_eq bytes) words) 0 ≤ length bytes
first_fits bytes [] = omega arith
first_fits bytes (w ∷ words) =
    let rest = first_fits bytes words in
    let P : Bool → Type 0 = λ b. starts_with nat_eq bytes w ≡ b → option_map_or length (cond b (Some w) (find (starts_with nat_eq bytes) words)) 0 ≤ length bytes in
    elim (starts_with nat_eq bytes w) as P [
      | true ↦ λ h. let same = pointwise_long nat_eq w (take (length w) bytes) h in let cut = length-take (length w) bytes in omega arith
      | false ↦ λ h. rest
    ] refl

symbol_fits : (bytes : List ℕ) → FitsIn (length bytes) (symbol_front (symbol_length bytes))
unfolding symbol_length
symbol_fits bytes =
    let len = symbol_length bytes in
    let fits : len ≤ length bytes = first_fits bytes symbols in
    either _ (len == 0) Wrong (Piece Symbol len) (λ h. tt) (λ h. (grind (arith, nat_tests), fits))

-- what stands at the front fits
pub front-fits : (bytes : List ℕ) → FitsIn (length bytes) (front_of bytes)
unfolding front_of
front-fits [] = tt
front-fits (b ∷ bytes) =
    let len = suc (length bytes) in
    either len (is_space b) _ _ (λ h. (omega arith, omega arith)) (λ h.
    either len (b == 35) _ _ (comment_fits b bytes) (λ h.
    either len (is_letter b) _ _ (word_fits b bytes) (λ h.
    either len (is_digit b) _ _ (number_fits b bytes) (λ h.
    either len (b == 34) _ _ (λ h. quoted_fits bytes) (λ h. symbol_fits (b ∷ bytes))))))

-- skipping
tokens_from-skip : (n at : ℕ) (bytes : List ℕ) → n ≤ length bytes → tokens_from n at bytes ≡ tokens_from 0 (at + n) (drop n bytes)
unfolding tokens_from
tokens_from-skip zero at bytes h = ap (λ m. tokens_from 0 m bytes) (omega arith)
tokens_from-skip (suc n) at [] h = absurd (omega arith)
tokens_from-skip (suc n) at (b ∷ bytes) h = tokens_from-skip n (at + 1) bytes (omega arith) ∙ ap (λ m. tokens_from 0 m (drop n bytes)) (omega arith)

-- the tokens behind the first n bytes, of which there is one at least
behind : (at n : ℕ) (b : ℕ) (bytes : List ℕ) → 0 < n → n ≤ suc (length bytes) → tokens_from (n - 1) (at + 1) bytes ≡ tokens_from 0 (at + n) (drop n (b ∷ bytes))
behind at zero b bytes = λ h k. absurd (omega arith)
behind at (suc n) b bytes = λ h k.
    rw (sub-one) (tokens_from-skip n (at + 1) bytes (omega arith) ∙ ap (λ m. tokens_from 0 m (drop n bytes)) (omega arith))

pub tokens_from-blank : (at n : ℕ) (bytes : List ℕ) → 0 < length bytes → Blank n ≡ front_of bytes → tokens_from 0 at bytes ≡ tokens_from 0 (at + n) (drop n bytes)
unfolding tokens_from
tokens_from-blank at n [] = λ h is. absurd (omega arith)
tokens_from-blank at n (b ∷ bytes) = λ h is.
    let fits : FitsIn (suc (length bytes)) (Blank n) = subst (FitsIn (suc (length bytes))) (sym is) (front-fits (b ∷ bytes)) in
    ap (λ f. tokens_at f at (λ len. tokens_from (len - 1) (at + 1) bytes)) (sym is) ∙ behind at n b bytes fits.0 fits.1

pub tokens_from-piece : (at n : ℕ) (kind : TokenKind) (bytes : List ℕ) → 0 < length bytes → Piece kind n ≡ front_of bytes → tokens_from 0 at bytes ≡ record { kind = kind; start = at; end = at + n } ∷ tokens_from 0 (at + n) (drop n bytes)
unfolding tokens_from
tokens_from-piece at n kind [] = λ h is. absurd (omega arith)
tokens_from-piece at n kind (b ∷ bytes) = λ h is.
    let fits : FitsIn (suc (length bytes)) (Piece kind n) = subst (FitsIn (suc (length bytes))) (sym is) (front-fits (b ∷ bytes)) in
    ap (λ f. tokens_at f at (λ len. tokens_from (len - 1) (at + 1) bytes)) (sym is)
    ∙ ap (λ ts. record { kind = kind; start = at; end = at + n } ∷ ts) (behind at n b bytes fits.0 fits.1)

pub tokens_from-wrong : (at : ℕ) (bytes : List ℕ) → 0 < length bytes → Wrong ≡ front_of bytes → tokens_from 0 at bytes ≡ record { kind = Bad; start = at; end = at + 1 } ∷ []
unfolding tokens_from
tokens_from-wrong at [] = λ h is. absurd (omega arith)
tokens_from-wrong at (b ∷ bytes) = λ h is. ap (λ f. tokens_at f at (λ len. tokens_from (len - 1) (at + 1) bytes)) (sym is)

-- the tokens from a place on stand in order
pub tokens_from-order : (skipped at from : ℕ) (bytes : List ℕ) → skipped ≤ length bytes → from ≤ at + skipped → AreInOrder from (tokens_from skipped at bytes) (at + length bytes)
unfolding tokens_from
tokens_from-order skipped at from [] = λ h k. (omega arith, omega arith, omega arith)
tokens_from-order (suc skipped) at from (b ∷ bytes) = λ h k.
    let rest = tokens_from-order skipped (at + 1) from bytes (omega arith) (omega arith) in
    subst (AreInOrder from (tokens_from skipped (at + 1) bytes)) (omega arith) rest
tokens_from-order zero at from (b ∷ bytes) = λ h k.
    let next = λ (n to : ℕ). tokens_from-order n (at + 1) to bytes in
    let end : at + 1 + length bytes ≡ at + suc (length bytes) = omega arith in
    step (front_of (b ∷ bytes)) (omega arith) (front-fits (b ∷ bytes)) end next
  where
    step : (f : Front) → from ≤ at → FitsIn (suc (length bytes)) f → (at + 1 + length bytes ≡ at + suc (length bytes))
        → ((n to : ℕ) → n ≤ length bytes → to ≤ at + 1 + n → AreInOrder to (tokens_from n (at + 1) bytes) (at + 1 + length bytes))
        → AreInOrder from (tokens_at f at (λ len. tokens_from (len - 1) (at + 1) bytes)) (at + suc (length bytes))
    step (Blank n) low fits end next = subst (AreInOrder from (tokens_from (n - 1) (at + 1) bytes)) end (next (n - 1) from (omega arith) (omega arith))
    step (Piece kind n) low fits end next = (omega arith, omega arith, subst (AreInOrder (at + n) (tokens_from (n - 1) (at + 1) bytes)) end (next (n - 1) (at + n) (omega arith) (omega arith)))
    step Wrong low fits end next = (omega arith, omega arith, omega arith)

-- behind white space or a comment come the tokens of the rest
pub record IsBehind (text : List ℕ) (at n : ℕ) (front : List Token) : Type 0 where
  pub grows : 0 < n
  pub within : at + n ≤ length text
  pub tokens : tokens_from 0 at (drop at text) ≡ front ++ tokens_from 0 (at + n) (drop (at + n) text)

pub IsBehind-blank : (text : List ℕ) (at n : ℕ) → at < length text → Blank n ≡ front_of (take (length text - at) (drop at text)) → IsBehind text at n []
IsBehind-blank text at n h is =
    let here : Blank n ≡ front_of (drop at text) = is ∙ ap front_of (take_rest text at) in
    let len = length-drop at text in
    let fits : FitsIn (length (drop at text)) (Blank n) = subst (FitsIn (length (drop at text))) (sym here) (front-fits (drop at text)) in
    record {
      grows = fits.0;
      within = omega (arith, fits.1);
      tokens = tokens_from-blank at n (drop at text) (omega arith) here ∙ ap (λ bytes. tokens_from 0 (at + n) bytes) (drop-drop n at text);
    }

pub IsBehind-piece : (text : List ℕ) (at n : ℕ) (kind : TokenKind) → at < length text → Piece kind n ≡ front_of (take (length text - at) (drop at text)) → IsBehind text at n (record { kind = kind; start = at; end = at + n } ∷ [])
IsBehind-piece text at n kind h is =
    let here : Piece kind n ≡ front_of (drop at text) = is ∙ ap front_of (take_rest text at) in
    let len = length-drop at text in
    let fits : FitsIn (length (drop at text)) (Piece kind n) = subst (FitsIn (length (drop at text))) (sym here) (front-fits (drop at text)) in
    record {
      grows = fits.0;
      within = omega (arith, fits.1);
      tokens = tokens_from-piece at n kind (drop at text) (omega arith) here
          ∙ ap (λ bytes. record { kind = kind; start = at; end = at + n } ∷ tokens_from 0 (at + n) bytes) (drop-drop n at text);
    }

-- a byte that begins no token is the last
pub tokens_wrong : (text : List ℕ) (at : ℕ) → at < length text → Wrong ≡ front_of (take (length text - at) (drop at text)) → tokens_from 0 at (drop at text) ≡ record { kind = Bad; start = at; end = at + 1 } ∷ []
tokens_wrong text at h is =
    let len = length-drop at text in
    tokens_from-wrong at (drop at text) (omega arith) (is ∙ ap front_of (take_rest text at))

-- the end of the text is the last
pub tokens_end : (text : List ℕ) (at : ℕ) → length text ≤ at → tokens_from 0 at (drop at text) ≡ record { kind = Stop; start = at; end = at } ∷ []
unfolding tokens_from
tokens_end text at h = rw (drop_all at text h) refl

pub tokens-order : (text : List ℕ) → AreInOrder 0 (tokens_of text) (length text)
tokens-order text = subst (AreInOrder 0 (tokens_of text)) (omega arith) (tokens_from-order 0 0 0 text (omega arith) (omega arith))

-- the list so far with what stands at the place is the list that the rest makes
pub joined : {X : Type 0} (xs new rest whole tail : List X) → xs ++ rest ≡ whole → rest ≡ new ++ tail → (xs ++ new) ++ tail ≡ whole
joined xs new rest whole tail so here = append_assoc xs new tail ∙ ap (λ ys. xs ++ ys) (sym here) ∙ so

-- each token lies within the text
pub token_within : (ts : List Token) (from end i : ℕ) (d : Token) → AreInOrder from ts end → i < length ts → ((get_or ts i d).start ≤ (get_or ts i d).end) × ((get_or ts i d).end ≤ end)
token_within [] from end i d = λ order h. absurd (omega arith)
token_within (t ∷ ts) from end zero d = λ order h. (order.1, order_end ts t.end end order.2)
  where
    order_end : (ts : List Token) (from end : ℕ) → AreInOrder from ts end → from ≤ end
    order_end [] from end order = order
    order_end (t ∷ ts) from end order = let rest = order_end ts t.end end order.2 in omega (arith, order.0, order.1)
token_within (t ∷ ts) from end (suc i) d = λ order h. token_within ts t.end end i d order.2 (omega arith)

-- the last token is the end of the text, or a byte that begins none
pub record HasLast (ts : List Token) : Type 0 where
  pub front : List Token
  pub last : Token
  pub is : ts ≡ front ++ last ∷ []
  pub kind : (last.kind ≡ Stop) ⊎ (last.kind ≡ Bad)

HasLast-cons : (t : Token) (ts : List Token) → HasLast ts → HasLast (t ∷ ts)
HasLast-cons t ts h = record { front = t ∷ h.front; last = h.last; is = ap (λ us. t ∷ us) h.is; kind = h.kind }

pub tokens_from-last : (skipped at : ℕ) (bytes : List ℕ) → HasLast (tokens_from skipped at bytes)
unfolding tokens_from
tokens_from-last skipped at [] = record { front = []; last = record { kind = Stop; start = at; end = at }; is = refl; kind = inl refl }
tokens_from-last (suc skipped) at (b ∷ bytes) = tokens_from-last skipped (at + 1) bytes
tokens_from-last zero at (b ∷ bytes) = step (front_of (b ∷ bytes)) (λ n. tokens_from-last n (at + 1) bytes)
  where
    step : (f : Front) → ((n : ℕ) → HasLast (tokens_from n (at + 1) bytes)) → HasLast (tokens_at f at (λ len. tokens_from (len - 1) (at + 1) bytes))
    step (Blank n) next = next (n - 1)
    step (Piece kind n) next = HasLast-cons _ _ (next (n - 1))
    step Wrong next = record { front = []; last = record { kind = Bad; start = at; end = at + 1 }; is = refl; kind = inr refl }
