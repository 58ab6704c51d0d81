-- The letters of a formula that is read are names.
use Rattle.std.proofs.Common.{◌≡◌, ℕ, suc, ◌<◌, Bool, true, false, ◌&&◌, ◌⊎◌, inl, inr, nat_le, cond, List, [], ◌∷◌, length, map, get_or, refl, sym, ◌∙◌, ap, subst, arith}
use Rattle.std.proofs.lemmas.Bool.Decides.{nat_tests}
use Rattle.std.proofs.lemmas.List.{length-map}
use Rattle.std.specs.Str.{bytes_eq}
use Rattle.std.specs.Prelude.{codes}
use Rattle.lw_formula.specs.Formula.{Formula}
use Rattle.lw_formula.specs.Name.{is_name}
use Rattle.lw_formula.specs.Variables.{Occurs, HasNames}
use Rattle.lw_formula.specs.Joint.{join}
use Rattle.lw_formula.specs.declared.joint.Joint.{Joint}
use Rattle.lw_formula.specs.declared.joint.Joint.TheVariants.{And, Or, Imp, Iff}
use Rattle.lw_read.specs.declared.lexeme.Prefix.{Prefix}
use Rattle.lw_read.specs.declared.lexeme.Prefix.TheVariants.{Not, Nec, Poss}
use Rattle.lw_read.specs.declared.lexer.Token.{Token}
use Rattle.lw_read.specs.declared.lexer.TokenKind.{TokenKind}
use Rattle.lw_read.specs.declared.lexer.TokenKind.TheVariants as kind
use Rattle.lw_read.specs.Tokens.{tokens_of}
use Rattle.lw_read.specs.Lexemes.{Lexeme, Variable, Truth, Falsity, Before, Between, Open, Close, End, Foreign, is_variable, other_lexeme, word_lexeme, symbol_lexeme, kind_lexeme, lexeme_of, is_long}
use Rattle.lw_read.specs.Grammar.{apply, Reads, variable, truth, falsity, prefixed, bracketed, joined, ReadsAs}
use Rattle.lw_read.proofs.NameTests.{is_name-is}

-- a lexeme that is a variable has a variable's bytes
abbrev IsGood : Lexeme → Type 0
IsGood (Variable x) = is_variable x ≡ true
IsGood _ = Unit {0}

good-if : (c : Bool) (t u : Lexeme) → IsGood t → IsGood u → IsGood (cond c t u)
good-if true t u a b = a
good-if false t u a b = b

good-other : (word : List ℕ) → IsGood (other_lexeme word)
good-other word =
    let Goal : Bool → Type 0 = λ b. is_variable word ≡ b → IsGood (cond b (Variable word) Foreign) in
    elim (is_variable word) as Goal [ true ↦ λ is. is | false ↦ λ is. tt ] refl

good-word : (word : List ℕ) → IsGood (word_lexeme word)
unfolding word_lexeme
good-word word =
    good-if (bytes_eq word (codes "true")) _ _ tt (good-if (bytes_eq word (codes "false")) _ _ tt
    (good-if (bytes_eq word (codes "box")) _ _ tt (good-if (bytes_eq word (codes "dia")) _ _ tt
    (good-if (bytes_eq word (codes "v")) _ _ tt (good-other word)))))

good-symbol : (word : List ℕ) → IsGood (symbol_lexeme word)
unfolding symbol_lexeme
good-symbol word =
    good-if (bytes_eq word (codes "~")) _ _ tt (good-if (bytes_eq word (codes "&")) _ _ tt
    (good-if (bytes_eq word (codes "->")) _ _ tt (good-if (bytes_eq word (codes "<->")) _ _ tt
    (good-if (bytes_eq word (codes "(")) _ _ tt (good-if (bytes_eq word (codes ")")) _ _ tt tt)))))

good-kind : (k : TokenKind) (bytes : List ℕ) → IsGood (kind_lexeme k bytes)
good-kind kind.Word bytes = good-word bytes
good-kind kind.LongWord bytes = good-word bytes
good-kind kind.Symbol bytes = good-symbol bytes
good-kind kind.Stop bytes = tt
good-kind kind.Number bytes = tt
good-kind kind.Text bytes = tt
good-kind kind.BigNumber bytes = tt
good-kind kind.Bad bytes = tt

-- a lexeme that is a variable is a name
abbrev IsNamed : Lexeme → Type 0
IsNamed (Variable x) = is_name x ≡ true
IsNamed _ = Unit {0}

named : (t : Lexeme) → IsGood t → is_long t ≡ false → IsNamed t
named (Variable x) good short =
    let low : nat_le (length x) 64 ≡ true = grind (arith, nat_tests) in
    is_name-is x ∙ ap (λ b. b && nat_le (length x) 64) good ∙ low
named Truth good short = tt
named Falsity good short = tt
named (Before sign) good short = tt
named (Between sign) good short = tt
named Open good short = tt
named Close good short = tt
named End good short = tt
named Foreign good short = tt

-- the same of each of the tokens
abbrev AreNamed : List Lexeme → Type 0
AreNamed [] = Unit {0}
AreNamed (t ∷ ts) = IsNamed t × AreNamed ts

are-named : (text : List ℕ) (ts : List Token) → ((i : ℕ) → i < length ts → is_long (get_or (map (lexeme_of text) ts) i End) ≡ false) → AreNamed (map (lexeme_of text) ts)
are-named text [] short = tt
are-named text (t ∷ ts) short = (named (lexeme_of text t) (good-kind _ _) (short 0 (omega arith)), are-named text ts (λ i h. short (suc i) (omega arith)))

apply-letters : (sign : Prefix) (a : Formula) (p : List ℕ) → Occurs p (apply sign a) → Occurs p a
apply-letters Not a p o = o
apply-letters Nec a p o = o
apply-letters Poss a p o = o

join-letters : (sign : Joint) (a b : Formula) (p : List ℕ) → Occurs p (join sign a b) → Occurs p a ⊎ Occurs p b
join-letters And a b p o = o
join-letters Or a b p o = o
join-letters Imp a b p o = o
join-letters Iff a b p o = o

-- an expression's letters are variables among its tokens
letters : {n : ℕ} {ts rest : List Lexeme} {a : Formula} → Reads n ts a rest → AreNamed ts → (HasNames a) × AreNamed rest
letters (variable {x = x}) all = (λ p o. subst (λ q. is_name q ≡ true) (sym o) all.0, all.1)
letters truth all = (λ p o. absurd o, all.1)
letters falsity all = (λ p o. absurd o, all.1)
letters (prefixed {a = a} sign is operand) all =
    let inner = letters operand all.1 in
    (λ p o. inner.0 p (apply-letters sign a p (subst (Occurs p) is o)), inner.1)
letters (bracketed inner) all = let more = letters inner all.1 in (more.0, more.1.1)
letters (joined {a = a} {b = b} sign fits is left right) all =
    let first = letters left all in
    let second = letters right first.1.1 in
    (λ p o. elim (join-letters sign a b p (subst (Occurs p) is o)) [ inl o ↦ first.0 p o | inr o ↦ second.0 p o ], second.1)

-- what reads has names for its letters
pub letters-named : (text : List ℕ) (a : Formula) → ReadsAs text a → HasNames a
letters-named text a reads =
    let same = length-map (tokens_of text) (lexeme_of text) in
    (letters reads.1 (are-named text (tokens_of text) (λ i h. (reads.0 i (omega arith)).0 End))).0
