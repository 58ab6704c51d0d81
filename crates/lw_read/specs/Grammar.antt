-- The grammar of formulas, and what it says of a text: its tree, or the kind and place of its first fault.
--
--     Equ  := Imp [ "<->" Equ ]
--     Imp  := Dis [ "->" Imp ]
--     Dis  := Con [ "v" Dis ]
--     Con  := Pre [ "&" Con ]
--     Pre  := "~" Pre | "box" Pre | "dia" Pre | Atom
--     Atom := "true" | "false" | variable | "(" Equ ")"
use Rattle.std.specs.Prelude.{◌≡◌, ℕ, suc, ◌+◌, ◌≤◌, List, [], ◌∷◌, ◌++◌, length, map}
use Rattle.lw_formula.specs.Formula.{Formula, letter, falsum, verum, neg, nec, poss}
use Rattle.lw_formula.specs.Joint.{join}
use Rattle.lw_read.specs.declared.lexeme.Prefix.{Prefix}
use Rattle.lw_read.specs.declared.lexeme.Prefix.TheVariants.{Not, Nec, Poss}
use Rattle.lw_formula.specs.declared.joint.Joint.{Joint}
use Rattle.lw_formula.specs.declared.joint.Joint.TheVariants.{And, Or, Imp, Iff}
use Rattle.lw_read.specs.declared.fault.ReadFault.{ReadFault}
use Rattle.lw_read.specs.declared.fault.ReadFault.TheVariants.{Unexpected, Nested, Name, Memory}
use Rattle.lw_read.specs.declared.text_fault.TextFault.{TextFault}
use Rattle.lw_read.specs.declared.text_fault.TextFault.TheVariants as text
use Rattle.lw_read.specs.Lexemes.{Lexeme, Variable, Truth, Falsity, Before, Between, Open, Close, End, lexeme_of, lexemes_of, is_long}
use Rattle.lw_read.specs.Places.{Grammar, AreFine, IsUnexpected, IsTooLong, IsNested}
use Rattle.lw_read.specs.Language.{Language, grammar_of, start_of}

-- the level of the grammar at which the connective stands: 1 for Equ to 4 for Con; 5 is Pre
abbrev pub rank : Joint → ℕ
rank Iff = 1
rank Imp = 2
rank Or = 3
rank And = 4

-- the formula of one operand
abbrev pub apply : Prefix → Formula → Formula
apply Not a = neg a
apply Nec a = nec a
apply Poss a = poss a

-- the tokens `ts` are an expression of level n with the tree a, and behind it stands `rest`; an expression of a level
-- is one of each looser level too
pub data Reads : ℕ → List Lexeme → Formula → List Lexeme → Type 0 where
  variable : {n : ℕ} {x : List ℕ} {rest : List Lexeme} → Reads n (Variable x ∷ rest) (letter x) rest
  truth : {n : ℕ} {rest : List Lexeme} → Reads n (Truth ∷ rest) verum rest
  falsity : {n : ℕ} {rest : List Lexeme} → Reads n (Falsity ∷ rest) falsum rest
  prefixed : {n : ℕ} {ts rest : List Lexeme} {a c : Formula} (sign : Prefix) →
      c ≡ apply sign a → Reads 5 ts a rest → Reads n (Before sign ∷ ts) c rest
  bracketed : {n : ℕ} {ts rest : List Lexeme} {a : Formula} →
      Reads 1 ts a (Close ∷ rest) → Reads n (Open ∷ ts) a rest
  joined : {n : ℕ} {ts mid rest : List Lexeme} {a b c : Formula} (sign : Joint) → n ≤ rank sign →
      c ≡ join sign a b → Reads (rank sign + 1) ts a (Between sign ∷ mid) → Reads (rank sign) mid b rest →
      Reads n ts c rest

-- how many constructs of an expression are unfinished at each of its tokens: a bracket until it is closed, `~`, `box`
-- and `dia` until the end of their operand, a connective from its token to the end of the expression of its level
abbrev pub unfinished : {n : ℕ} {ts rest : List Lexeme} {a : Formula} → Reads n ts a rest → List ℕ
unfinished variable = 0 ∷ []
unfinished truth = 0 ∷ []
unfinished falsity = 0 ∷ []
unfinished (prefixed sign is operand) = 1 ∷ map suc (unfinished operand)
unfinished (bracketed inner) = 1 ∷ (map suc (unfinished inner) ++ 0 ∷ [])
unfinished (joined sign fits is left right) = unfinished left ++ (1 ∷ map suc (unfinished right))

-- the tokens are a whole text with this tree
abbrev pub IsFormula : List Lexeme → Formula → Type 0
IsFormula ts a = Reads 1 ts a (End ∷ [])

-- the language of formulas; at the end of a text nothing is unfinished
abbrev pub formula_language : Language Lexeme Formula
formula_language = record {
  lexeme_of = lexeme_of;
  IsText = IsFormula;
  counts = λ ts a text. unfinished text ++ (0 ∷ []);
  is_long = is_long;
}

-- the grammar of formulas
abbrev pub formulas : Grammar Lexeme
formulas = grammar_of formula_language

-- the text has no fault, and this tree
abbrev pub ReadsAs : List ℕ → Formula → Type 0
ReadsAs text a = AreFine formulas (lexemes_of text) (length (lexemes_of text)) × IsFormula (lexemes_of text) a

-- the fault is the first one of the text, at the first byte of its token
abbrev pub IsFaultOf : List ℕ → ReadFault → Type 0
IsFaultOf text (Unexpected at) = (i : ℕ) × IsUnexpected formulas (lexemes_of text) i × (at ≡ start_of text i)
IsFaultOf text (Name at) = (i : ℕ) × IsTooLong formulas (lexemes_of text) i × (at ≡ start_of text i)
IsFaultOf text (Nested at) = (i : ℕ) × IsNested formulas (lexemes_of text) i × (at ≡ start_of text i)
IsFaultOf text Memory = Unit {0}

-- the fault of a formula's text
abbrev pub read_fault : TextFault → ReadFault
read_fault (text.Unexpected token) = Unexpected token.start
read_fault (text.TooLong token) = Name token.start
read_fault (text.Nested token) = Nested token.start
read_fault text.Memory = Memory
