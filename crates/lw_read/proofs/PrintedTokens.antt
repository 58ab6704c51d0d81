-- The bytes of a printed formula, and that its tokens are its spelling.
use Rattle.std.proofs.Common.{◌≡◌, ℕ, suc, ◌+◌, ◌-◌, ◌==◌, Bool, true, false, ◌&&◌, ◌||◌, inl, inr, not, List, [], ◌∷◌, ◌++◌, length, take, take_while, cond, nat_lt, nat_le, codes, slice_index, refl, sym, ◌∙◌, ap, subst, arith}
use Rattle.std.proofs.lemmas.List.{append_assoc, append-nil, take_at}
use Rattle.std.proofs.lemmas.Bool.{false≢true}
use Rattle.std.proofs.lemmas.Slice.Eq.{bytes_eq-Decides}
use Rattle.std.specs.List.{prefix_len, list_all}
use Rattle.std.specs.Str.{bytes_eq}
use Rattle.lw_formula.specs.Formula.{Formula, letter, falsum, verum, neg, conj, disj, impl, equi, nec, poss}
use Rattle.lw_formula.specs.Name.{is_lower, is_upper, is_word_byte, reserved_words, is_reserved, is_name}
use Rattle.lw_read.specs.declared.lexeme.Prefix.TheVariants.{Not, Nec, Poss}
use Rattle.lw_formula.specs.declared.joint.Joint.TheVariants.{And, Or, Imp, Iff}
use Rattle.lw_read.specs.declared.lexer.Front.{Front}
use Rattle.lw_read.specs.declared.lexer.TokenKind.TheVariants.{Word, LongWord}
use Rattle.lw_read.specs.Tokens.{is_space, is_letter, word_front, front_of, symbols, symbol_length}
use Rattle.lw_read.specs.Lexemes.{Lexeme, Variable, Truth, Falsity, Before, Between, Open, Close, End, Foreign, is_variable, word_lexeme, symbol_lexeme, kind_lexeme, lexemes_of}
use Rattle.lw_read.specs.Grammar.{IsFormula}
use Rattle.lw_read.specs.Text.{tightness, text_of}
use Rattle.lw_formula.specs.Variables.{HasNames}
use Rattle.lw_read.proofs.NameTests.{and_both, is_name-is}
use Rattle.lw_read.proofs.SpelledFormulas.{in_brackets, spelled, spelled-reads, tightness-low}
use Rattle.lw_read.proofs.LexemeSteps.{lexed_at, lexed, lexed-tokens}

abbrev bracketed : Bool → (List ℕ → List ℕ) → List ℕ → List ℕ
bracketed true write rest = 40 ∷ write (41 ∷ rest)
bracketed false write rest = write rest

abbrev spaced : Bool → (List ℕ → List ℕ) → List ℕ → List ℕ
spaced true write rest = 40 ∷ write (41 ∷ rest)
spaced false write rest = 32 ∷ write rest

-- the text of a formula before other bytes
abbrev written : Formula → List ℕ → List ℕ
written (letter p) rest = p ++ rest
written falsum rest = codes "false" ++ rest
written verum rest = codes "true" ++ rest
written (neg a) rest = 126 ∷ bracketed (nat_lt (tightness a) 5) (written a) rest
written (nec a) rest = codes "box" ++ spaced (nat_lt (tightness a) 5) (written a) rest
written (poss a) rest = codes "dia" ++ spaced (nat_lt (tightness a) 5) (written a) rest
written (conj a b) rest = bracketed (nat_lt (tightness a) 5) (written a) (codes " & " ++ bracketed (nat_lt (tightness b) 4) (written b) rest)
written (disj a b) rest = bracketed (nat_lt (tightness a) 4) (written a) (codes " v " ++ bracketed (nat_lt (tightness b) 3) (written b) rest)
written (impl a b) rest = bracketed (nat_lt (tightness a) 3) (written a) (codes " -> " ++ bracketed (nat_lt (tightness b) 2) (written b) rest)
written (equi a b) rest = bracketed (nat_lt (tightness a) 2) (written a) (codes " <-> " ++ bracketed (nat_lt (tightness b) 1) (written b) rest)

bracketed-is : (c : Bool) (write : List ℕ → List ℕ) (text : List ℕ) → ((rest : List ℕ) → write rest ≡ text ++ rest) → (rest : List ℕ) → bracketed c write rest ≡ cond c (codes "(" ++ text ++ codes ")") text ++ rest
bracketed-is true write text is rest = ap (λ bytes. 40 ∷ bytes) (is (41 ∷ rest) ∙ sym (append_assoc text (41 ∷ []) rest))
bracketed-is false write text is rest = is rest

spaced-is : (c : Bool) (write : List ℕ → List ℕ) (text : List ℕ) → ((rest : List ℕ) → write rest ≡ text ++ rest) → (rest : List ℕ) → spaced c write rest ≡ cond c (codes "(" ++ text ++ codes ")") (codes " " ++ text) ++ rest
spaced-is true write text is rest = ap (λ bytes. 40 ∷ bytes) (is (41 ∷ rest) ∙ sym (append_assoc text (41 ∷ []) rest))
spaced-is false write text is rest = ap (λ bytes. 32 ∷ bytes) (is rest)

-- two operands with a connective between them
between-is : (c d : Bool) (write write' : List ℕ → List ℕ) (text text' sign : List ℕ) → ((rest : List ℕ) → write rest ≡ text ++ rest) → ((rest : List ℕ) → write' rest ≡ text' ++ rest) → (rest : List ℕ)
    → bracketed c write (sign ++ bracketed d write' rest) ≡ (cond c (codes "(" ++ text ++ codes ")") text ++ sign ++ cond d (codes "(" ++ text' ++ codes ")") text') ++ rest
between-is c d write write' text text' sign is is' rest =
    let left = cond c (codes "(" ++ text ++ codes ")") text in
    let right = cond d (codes "(" ++ text' ++ codes ")") text' in
    bracketed-is c write text is (sign ++ bracketed d write' rest)
    ∙ ap (λ bytes. left ++ (sign ++ bytes)) (bracketed-is d write' text' is' rest)
    ∙ sym (append_assoc left sign (right ++ rest))
    ∙ sym (append_assoc (left ++ sign) right rest)

written-is : (a : Formula) (rest : List ℕ) → written a rest ≡ text_of a ++ rest
written-is (letter p) rest = refl
written-is falsum rest = refl
written-is verum rest = refl
written-is (neg a) rest = ap (λ bytes. 126 ∷ bytes) (bracketed-is (nat_lt (tightness a) 5) (written a) (text_of a) (written-is a) rest)
written-is (nec a) rest = ap (λ bytes. codes "box" ++ bytes) (spaced-is (nat_lt (tightness a) 5) (written a) (text_of a) (written-is a) rest)
written-is (poss a) rest = ap (λ bytes. codes "dia" ++ bytes) (spaced-is (nat_lt (tightness a) 5) (written a) (text_of a) (written-is a) rest)
written-is (conj a b) rest = between-is (nat_lt (tightness a) 5) (nat_lt (tightness b) 4) (written a) (written b) (text_of a) (text_of b) (codes " & ") (written-is a) (written-is b) rest
written-is (disj a b) rest = between-is (nat_lt (tightness a) 4) (nat_lt (tightness b) 3) (written a) (written b) (text_of a) (text_of b) (codes " v ") (written-is a) (written-is b) rest
written-is (impl a b) rest = between-is (nat_lt (tightness a) 3) (nat_lt (tightness b) 2) (written a) (written b) (text_of a) (text_of b) (codes " -> ") (written-is a) (written-is b) rest
written-is (equi a b) rest = between-is (nat_lt (tightness a) 2) (nat_lt (tightness b) 1) (written a) (written b) (text_of a) (text_of b) (codes " <-> ") (written-is a) (written-is b) rest

-- no word goes on with these bytes
abbrev Stops : List ℕ → Type 0
Stops [] = Unit {0}
Stops (b ∷ bytes) = is_word_byte b ≡ false

word-len : (word rest : List ℕ) → list_all is_word_byte word ≡ true → Stops rest → prefix_len is_word_byte (word ++ rest) ≡ length word
word-len [] [] all stops = refl
word-len [] (b ∷ rest) all stops = ap (λ c. cond c (1 + prefix_len is_word_byte rest) 0) stops
word-len (b ∷ word) rest all stops =
    let both = and_both (is_word_byte b) (list_all is_word_byte word) all in
    let more = word-len word rest both.1 stops in
    ap (λ c. cond c (1 + prefix_len is_word_byte (word ++ rest)) 0) both.0 ∙ ap (λ n. 1 + n) more ∙ omega arith

pick : (s h l : Bool) (x y w z : Front) → s ≡ false → h ≡ false → l ≡ true → cond s x (cond h y (cond l w z)) ≡ w
pick true h l x y w z = λ p q r. absurd (false≢true (sym p))
pick false true l x y w z = λ p q r. absurd (false≢true (sym q))
pick false false true x y w z = λ p q r. refl
pick false false false x y w z = λ p q r. absurd (false≢true r)

front-letter : (b : ℕ) (bytes : List ℕ) → is_letter b ≡ true → front_of (b ∷ bytes) ≡ word_front (take_while is_word_byte (b ∷ bytes))
unfolding front_of
front-letter b bytes h = pick (is_space b) (b == 35) (is_letter b) _ _ _ _ (grind arith) (grind arith) h

lexed-skip : (word rest : List ℕ) → lexed (length word) (word ++ rest) ≡ lexed 0 rest
unfolding lexed
lexed-skip [] rest = refl
lexed-skip (b ∷ word) rest = lexed-skip word rest

kind-word : (c : Bool) (word : List ℕ) → kind_lexeme (cond c Word LongWord) word ≡ word_lexeme word
kind-word true word = refl
kind-word false word = refl

-- a word before what ends it
lexed-word : (b : ℕ) (word rest : List ℕ) → is_letter b ≡ true → list_all is_word_byte (b ∷ word) ≡ true → Stops rest → lexed 0 ((b ∷ word) ++ rest) ≡ word_lexeme (b ∷ word) ∷ lexed 0 rest
unfolding lexed
lexed-word b word rest begins all stops =
    let whole = b ∷ word in
    let cut : take_while is_word_byte (whole ++ rest) ≡ whole = ap (λ n. take n (whole ++ rest)) (word-len whole rest all stops) ∙ take_at whole rest (length whole) refl in
    let front = front-letter b (word ++ rest) begins ∙ ap word_front cut in
    let bytes = take_at whole rest (length whole) refl in
    let one : suc (length word) - 1 ≡ length word = omega arith in
    let kind = kind-word (nat_le (length whole) 64) whole in
    ap (λ f. lexed_at f (whole ++ rest) (λ n. lexed (n - 1) (word ++ rest))) front
    ∙ ap (λ taken. kind_lexeme (cond (nat_le (length whole) 64) Word LongWord) taken ∷ lexed (suc (length word) - 1) (word ++ rest)) bytes
    ∙ ap (λ t. t ∷ lexed (suc (length word) - 1) (word ++ rest)) kind
    ∙ ap (λ n. word_lexeme whole ∷ lexed n (word ++ rest)) one
    ∙ ap (λ ts. word_lexeme whole ∷ ts) (lexed-skip word rest)

-- a name is none of the words with another meaning
other : (word p : List ℕ) → is_reserved word ≡ true → is_reserved p ≡ false → bytes_eq p word ≡ false
other word p reserved free =
    let Goal : Bool → Type 0 = λ b. bytes_eq p word ≡ b → b ≡ false in
    elim (bytes_eq p word) as Goal [
      | true ↦ λ is. let same = (bytes_eq-Decides p word).0 is in absurd (false≢true (sym free ∙ ap is_reserved same ∙ reserved))
      | false ↦ λ is. refl
    ] refl

pick-last : (t f b d v : Bool) (x y z w u r : Lexeme) → t ≡ false → f ≡ false → b ≡ false → d ≡ false → v ≡ false → cond t x (cond f y (cond b z (cond d w (cond v u r)))) ≡ r
pick-last t f b d v x y z w u r p q s o e =
    ap (λ c. cond c x (cond f y (cond b z (cond d w (cond v u r))))) p
    ∙ ap (λ c. cond c y (cond b z (cond d w (cond v u r)))) q
    ∙ ap (λ c. cond c z (cond d w (cond v u r))) s
    ∙ ap (λ c. cond c w (cond v u r)) o
    ∙ ap (λ c. cond c u r) e

-- the parts of a name's test
pub record IsNamed (p : List ℕ) : Type 0 where
  pub variable : is_variable p ≡ true
  pub low : is_lower (slice_index p 0) ≡ true
  pub word : list_all is_word_byte p ≡ true
  pub free : is_reserved p ≡ false

named : (p : List ℕ) → is_name p ≡ true → IsNamed p
unfolding is_variable
named p is =
    let both = and_both (is_variable p) (nat_le (length p) 64) (sym (is_name-is p) ∙ is) in
    let parts = and_both (is_lower (slice_index p 0) && list_all is_word_byte p) (not (is_reserved p)) both.0 in
    let begins = and_both (is_lower (slice_index p 0)) (list_all is_word_byte p) parts.0 in
    record { variable = both.0; low = begins.0; word = begins.1; free = turned (is_reserved p) parts.1 }
  where
    turned : (b : Bool) → not b ≡ true → b ≡ false
    turned true h = absurd (false≢true h)
    turned false h = refl

word-name : (p : List ℕ) → IsNamed p → word_lexeme p ≡ Variable p
unfolding word_lexeme is_reserved reserved_words
word-name p is =
    pick-last _ _ _ _ _ _ _ _ _ _ _
    (other (codes "true") p refl is.free) (other (codes "false") p refl is.free) (other (codes "box") p refl is.free)
    (other (codes "dia") p refl is.free) (other (codes "v") p refl is.free)
    ∙ ap (λ b. cond b (Variable p) Foreign) is.variable

letter-lower : (b : ℕ) → is_lower b ≡ true → is_letter b ≡ true
letter-lower b h = ap (λ c. c || is_upper b) h

lexed-name : (p rest : List ℕ) → IsNamed p → Stops rest → lexed 0 (p ++ rest) ≡ Variable p ∷ lexed 0 rest
lexed-name [] rest is stops = absurd (false≢true is.low)
lexed-name (b ∷ p) rest is stops = lexed-word b p rest (letter-lower b is.low) is.word stops ∙ ap (λ t. t ∷ lexed 0 rest) (word-name (b ∷ p) is)

lexed-open : (rest : List ℕ) → lexed 0 (40 ∷ rest) ≡ Open ∷ lexed 0 rest
unfolding lexed front_of symbol_length symbols symbol_lexeme
lexed-open rest = refl

lexed-close : (rest : List ℕ) → lexed 0 (41 ∷ rest) ≡ Close ∷ lexed 0 rest
unfolding lexed front_of symbol_length symbols symbol_lexeme
lexed-close rest = refl

lexed-not : (rest : List ℕ) → lexed 0 (126 ∷ rest) ≡ Before Not ∷ lexed 0 rest
unfolding lexed front_of symbol_length symbols symbol_lexeme
lexed-not rest = refl

lexed-space : (rest : List ℕ) → lexed 0 (32 ∷ rest) ≡ lexed 0 rest
unfolding lexed front_of
lexed-space rest = refl

lexed-and : (rest : List ℕ) → lexed 0 (codes " & " ++ rest) ≡ Between And ∷ lexed 0 rest
unfolding lexed front_of symbol_length symbols symbol_lexeme
lexed-and rest = refl

lexed-or : (rest : List ℕ) → lexed 0 (codes " v " ++ rest) ≡ Between Or ∷ lexed 0 rest
unfolding lexed front_of word_lexeme
lexed-or rest = refl

lexed-imp : (rest : List ℕ) → lexed 0 (codes " -> " ++ rest) ≡ Between Imp ∷ lexed 0 rest
unfolding lexed front_of symbol_length symbols symbol_lexeme
lexed-imp rest = refl

lexed-iff : (rest : List ℕ) → lexed 0 (codes " <-> " ++ rest) ≡ Between Iff ∷ lexed 0 rest
unfolding lexed front_of symbol_length symbols symbol_lexeme
lexed-iff rest = refl

lexed-true : (rest : List ℕ) → Stops rest → lexed 0 (codes "true" ++ rest) ≡ Truth ∷ lexed 0 rest
unfolding word_lexeme
lexed-true rest stops = lexed-word 116 (codes "rue") rest refl refl stops

lexed-false : (rest : List ℕ) → Stops rest → lexed 0 (codes "false" ++ rest) ≡ Falsity ∷ lexed 0 rest
unfolding word_lexeme
lexed-false rest stops = lexed-word 102 (codes "alse") rest refl refl stops

lexed-box : (rest : List ℕ) → Stops rest → lexed 0 (codes "box" ++ rest) ≡ Before Nec ∷ lexed 0 rest
unfolding word_lexeme
lexed-box rest stops = lexed-word 98 (codes "ox") rest refl refl stops

lexed-dia : (rest : List ℕ) → Stops rest → lexed 0 (codes "dia" ++ rest) ≡ Before Poss ∷ lexed 0 rest
unfolding word_lexeme
lexed-dia rest stops = lexed-word 100 (codes "ia") rest refl refl stops

-- what is written is spelled so
abbrev Spells : (List ℕ → List ℕ) → (List Lexeme → List Lexeme) → Type 0
Spells write spell = (rest : List ℕ) → Stops rest → lexed 0 (write rest) ≡ spell (lexed 0 rest)

lexed-bracketed : (c : Bool) (write : List ℕ → List ℕ) (spell : List Lexeme → List Lexeme) → Spells write spell → Spells (bracketed c write) (in_brackets c spell)
lexed-bracketed true write spell is rest stops = lexed-open (write (41 ∷ rest)) ∙ ap (λ ts. Open ∷ ts) (is (41 ∷ rest) refl ∙ ap spell (lexed-close rest))
lexed-bracketed false write spell is rest stops = is rest stops

lexed-spaced : (c : Bool) (write : List ℕ → List ℕ) (spell : List Lexeme → List Lexeme) → Spells write spell → Spells (spaced c write) (in_brackets c spell)
lexed-spaced true write spell is rest stops = lexed-bracketed true write spell is rest stops
lexed-spaced false write spell is rest stops = lexed-space (write rest) ∙ is rest stops

spaced-stops : (c : Bool) (write : List ℕ → List ℕ) (rest : List ℕ) → Stops (spaced c write rest)
spaced-stops true write rest = refl
spaced-stops false write rest = refl

lexed-written : (a : Formula) → HasNames a → Spells (written a) (spelled a)
lexed-written (letter p) names rest stops = lexed-name p rest (named p (names p refl)) stops
lexed-written falsum names rest stops = lexed-false rest stops
lexed-written verum names rest stops = lexed-true rest stops
lexed-written (neg a) names rest stops =
    let inner = lexed-bracketed (nat_lt (tightness a) 5) (written a) (spelled a) (lexed-written a names) rest stops in
    lexed-not _ ∙ ap (λ ts. Before Not ∷ ts) inner
lexed-written (nec a) names rest stops =
    let c = nat_lt (tightness a) 5 in
    lexed-box (spaced c (written a) rest) (spaced-stops c (written a) rest)
    ∙ ap (λ ts. Before Nec ∷ ts) (lexed-spaced c (written a) (spelled a) (lexed-written a names) rest stops)
lexed-written (poss a) names rest stops =
    let c = nat_lt (tightness a) 5 in
    lexed-dia (spaced c (written a) rest) (spaced-stops c (written a) rest)
    ∙ ap (λ ts. Before Poss ∷ ts) (lexed-spaced c (written a) (spelled a) (lexed-written a names) rest stops)
lexed-written (conj a b) names rest stops =
    let left = lexed-bracketed (nat_lt (tightness a) 5) (written a) (spelled a) (lexed-written a (λ p o. names p (inl o))) in
    let right = lexed-bracketed (nat_lt (tightness b) 4) (written b) (spelled b) (lexed-written b (λ p o. names p (inr o))) rest stops in
    left _ refl ∙ ap (in_brackets (nat_lt (tightness a) 5) (spelled a)) (lexed-and _ ∙ ap (λ ts. Between And ∷ ts) right)
lexed-written (disj a b) names rest stops =
    let left = lexed-bracketed (nat_lt (tightness a) 4) (written a) (spelled a) (lexed-written a (λ p o. names p (inl o))) in
    let right = lexed-bracketed (nat_lt (tightness b) 3) (written b) (spelled b) (lexed-written b (λ p o. names p (inr o))) rest stops in
    left _ refl ∙ ap (in_brackets (nat_lt (tightness a) 4) (spelled a)) (lexed-or _ ∙ ap (λ ts. Between Or ∷ ts) right)
lexed-written (impl a b) names rest stops =
    let left = lexed-bracketed (nat_lt (tightness a) 3) (written a) (spelled a) (lexed-written a (λ p o. names p (inl o))) in
    let right = lexed-bracketed (nat_lt (tightness b) 2) (written b) (spelled b) (lexed-written b (λ p o. names p (inr o))) rest stops in
    left _ refl ∙ ap (in_brackets (nat_lt (tightness a) 3) (spelled a)) (lexed-imp _ ∙ ap (λ ts. Between Imp ∷ ts) right)
lexed-written (equi a b) names rest stops =
    let left = lexed-bracketed (nat_lt (tightness a) 2) (written a) (spelled a) (lexed-written a (λ p o. names p (inl o))) in
    let right = lexed-bracketed (nat_lt (tightness b) 1) (written b) (spelled b) (lexed-written b (λ p o. names p (inr o))) rest stops in
    left _ refl ∙ ap (in_brackets (nat_lt (tightness a) 2) (spelled a)) (lexed-iff _ ∙ ap (λ ts. Between Iff ∷ ts) right)

-- the tokens of a printed formula
pub text-spelled : (a : Formula) → HasNames a → lexemes_of (text_of a) ≡ spelled a (End ∷ [])
unfolding lexed
text-spelled a names =
    lexed-tokens (text_of a) ∙ ap (lexed 0) (sym (append-nil (text_of a)) ∙ sym (written-is a [])) ∙ lexed-written a names [] tt

-- they read as it
pub text-reads : (a : Formula) → HasNames a → IsFormula (lexemes_of (text_of a)) a
text-reads a names = subst (λ ts. IsFormula ts a) (sym (text-spelled a names)) (spelled-reads a 1 (End ∷ []) (tightness-low a))
