-- A line that keeps what it has to keep has no line feed.
use Rattle.std.proofs.Common.{◌≡◌, ℕ, ◌&&◌, nat_lt, Bool, true, List, [], ◌∷◌, ◌++◌, map, codes, refl, sym, ◌∙◌, ap, subst, arith}
use Rattle.std.specs.Fmt.{decimal}
use Rattle.std.specs.List.{list_all}
use Rattle.lw_formula.specs.declared.logic.Logic.{Logic}
use Rattle.lw_formula.specs.declared.sign.Sign.{Sign}
use Rattle.lw_formula.specs.declared.sign.Sign.TheVariants.{T, F}
use Rattle.lw_formula.specs.Formula.{Formula}
use Rattle.lw_formula.specs.Logic.{word_of}
use Rattle.lw_proof.specs.declared.rule.Rule.{Rule}
use Rattle.lw_read.specs.declared.lexeme.Prefix.{Prefix}
use Rattle.lw_read.specs.declared.lexeme.Prefix.TheVariants.{Not, Nec, Poss}
use Rattle.lw_formula.specs.declared.joint.Joint.{Joint}
use Rattle.lw_formula.specs.declared.joint.Joint.TheVariants.{And, Or, Imp, Iff}
use Rattle.lw_read.specs.declared.lexer.Token.{Token}
use Rattle.lw_read.specs.declared.lexer.TokenKind.{TokenKind}
use Rattle.lw_read.specs.Tokens.{tokens_of}
use Rattle.lw_read.specs.Lexemes.{Lexeme, Variable, is_variable, word_lexeme, symbol_lexeme, kind_lexeme, lexeme_of}
use Rattle.lw_read.specs.Grammar.{apply, Reads, variable, truth, falsity, prefixed, bracketed, joined, ReadsAs}
use Rattle.lw_formula.specs.Joint.{join}
use Rattle.lw_read.specs.Text.{tightness, operand_text, modal_operand_text, sign_text, text_of}
use Rattle.lw_cert.specs.Lines.{Line, logic_is, formula_is, step_is, worlds_are, refuted_is, world_is, nothing, Piece, Whole, say, rule_word, sign_word, numbers, words, Rise, IsAllowed}
use Rattle.lw_cert.proofs.MarkFreeBytes.{lacks, lacks-append, lacks-if, lacks-decimal, lacks-word, lacks-name, and-first, and-second}

abbrev IsFeedless : List ℕ → Type 0
IsFeedless bytes = lacks 10 bytes ≡ true

feedless-append : (xs ys : List ℕ) → IsFeedless xs → IsFeedless ys → IsFeedless (xs ++ ys)
feedless-append = lacks-append 10

feedless-decimal : (n : ℕ) → IsFeedless (decimal n)
feedless-decimal n = lacks-decimal 10 n (omega arith)

feedless-variable : (p : List ℕ) → is_variable p ≡ true → IsFeedless p
unfolding is_variable
feedless-variable p is = lacks-word 10 p (omega arith) (and-second _ _ (and-first _ _ is))

-- whatever a token is, a variable is one by its bytes
abbrev is_sound : Lexeme → Bool
is_sound (Variable p) = is_variable p
is_sound _ = true

sound-word : (w : List ℕ) → is_sound (word_lexeme w) ≡ true
unfolding word_lexeme
sound-word w = grind arith

sound-symbol : (w : List ℕ) → is_sound (symbol_lexeme w) ≡ true
unfolding symbol_lexeme
sound-symbol w = grind arith

sound-kind : (k : TokenKind) (w : List ℕ) → is_sound (kind_lexeme k w) ≡ true
sound-kind k w = grind (arith, sound-word, sound-symbol)

sound-tokens : (text : List ℕ) (ts : List Token) → list_all is_sound (map (lexeme_of text) ts) ≡ true
sound-tokens text [] = refl
sound-tokens text (t ∷ ts) = ap (λ b. b && list_all is_sound (map (lexeme_of text) ts)) (sound-kind t.kind _) ∙ sound-tokens text ts

-- the texts of operands
feedless-operand : (least : ℕ) (a : Formula) → IsFeedless (text_of a) → IsFeedless (operand_text least a (text_of a))
feedless-operand least a h = lacks-if 10 (nat_lt (tightness a) least) (codes "(" ++ text_of a ++ codes ")") (text_of a) (feedless-append (text_of a) (codes ")") h refl) h

feedless-modal : (a : Formula) → IsFeedless (text_of a) → IsFeedless (modal_operand_text a (text_of a))
feedless-modal a h = lacks-if 10 (nat_lt (tightness a) 5) (codes "(" ++ text_of a ++ codes ")") (codes " " ++ text_of a) (feedless-append (text_of a) (codes ")") h refl) h

feedless-apply : (sign : Prefix) (a : Formula) → IsFeedless (text_of a) → IsFeedless (text_of (apply sign a))
feedless-apply Not a h = feedless-operand 5 a h
feedless-apply Nec a h = feedless-modal a h
feedless-apply Poss a h = feedless-modal a h

feedless-between : (n m : ℕ) (sign : Joint) (a b : Formula) → IsFeedless (sign_text sign) → IsFeedless (text_of a) → IsFeedless (text_of b) → IsFeedless (operand_text n a (text_of a) ++ sign_text sign ++ operand_text m b (text_of b))
feedless-between n m sign a b s h k =
    let left = operand_text n a (text_of a) in
    feedless-append (left ++ sign_text sign) (operand_text m b (text_of b)) (feedless-append left (sign_text sign) (feedless-operand n a h) s) (feedless-operand m b k)

feedless-join : (sign : Joint) (a b : Formula) → IsFeedless (text_of a) → IsFeedless (text_of b) → IsFeedless (text_of (join sign a b))
feedless-join And a b h k = feedless-between 5 4 And a b refl h k
feedless-join Or a b h k = feedless-between 4 3 Or a b refl h k
feedless-join Imp a b h k = feedless-between 3 2 Imp a b refl h k
feedless-join Iff a b h k = feedless-between 2 1 Iff a b refl h k

-- what reads as a formula has none, since its letters are variables
feedless-reads : {n : ℕ} {ts rest : List Lexeme} {a : Formula} → Reads n ts a rest → list_all is_sound ts ≡ true → IsFeedless (text_of a) × (list_all is_sound rest ≡ true)
feedless-reads {rest = rest} (variable {x = x}) sound = (feedless-variable x (and-first (is_variable x) (list_all is_sound rest) sound), and-second (is_variable x) (list_all is_sound rest) sound)
feedless-reads truth sound = (refl, sound)
feedless-reads falsity sound = (refl, sound)
feedless-reads (prefixed {a = a} sign is operand) sound =
    let inner = feedless-reads operand sound in
    (subst (λ c. IsFeedless (text_of c)) (sym is) (feedless-apply sign a inner.0), inner.1)
feedless-reads (bracketed operand) sound = feedless-reads operand sound
feedless-reads (joined {a = a} {b = b} sign fits is left right) sound =
    let first = feedless-reads left sound in
    let second = feedless-reads right first.1 in
    (subst (λ c. IsFeedless (text_of c)) (sym is) (feedless-join sign a b first.0 second.0), second.1)

feedless-text : (a : Formula) → ReadsAs (text_of a) a → IsFeedless (text_of a)
feedless-text a reads = (feedless-reads reads.1 (sound-tokens (text_of a) (tokens_of (text_of a)))).0

-- the words of lines
feedless-rule : (r : Rule) → IsFeedless (rule_word r)
feedless-rule r = grind arith

feedless-sign : (s : Sign) → IsFeedless (sign_word s)
feedless-sign T = refl
feedless-sign F = refl

feedless-logic : (L : Logic) → IsFeedless (word_of L)
feedless-logic L = grind arith

feedless-numbers : (vs rest : List ℕ) → IsFeedless rest → IsFeedless (numbers vs rest)
feedless-numbers [] rest h = h
feedless-numbers (v ∷ vs) rest h = feedless-append (decimal v) _ (feedless-decimal v) (feedless-numbers vs rest h)

feedless-words : (last : List ℕ) (ps : List (List ℕ)) → Rise last ps → IsFeedless (words ps)
feedless-words last [] rise = refl
feedless-words last (p ∷ ps) rise = feedless-append p _ (lacks-name 10 p (omega arith) rise.0) (feedless-words p ps rise.2)

-- the piece is a line without a line feed
abbrev pub IsLine : Piece → Type 0
IsLine (Whole bytes) = IsFeedless bytes
IsLine _ = ⊥

-- each line but the one that isn't there
abbrev pub IsThere : Line → Type 0
IsThere nothing = ⊥
IsThere _ = Unit {0}

pub is-line : (l : Line) → IsThere l → IsAllowed l → IsLine (say l)
is-line (logic_is L) there is = feedless-logic L
is-line (formula_is a) there is = feedless-text a is
is-line (step_is d r s) there is =
    feedless-append (rule_word r) _ (feedless-rule r) (feedless-append (sign_word s.0) _ (feedless-sign s.0) (feedless-text s.1 is.1))
is-line (worlds_are n) there is = feedless-decimal n
is-line (refuted_is n w) there is = feedless-decimal w
is-line (world_is n w row) there is =
    feedless-append (decimal w) _ (feedless-decimal w) (feedless-numbers row.sees _ (feedless-words [] row.names is.names))
is-line nothing there is = absurd there
is-line _ there is = refl
