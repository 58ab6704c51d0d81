-- The tokens of a text as the grammar of scripts sees them.
use Rattle.std.specs.Prelude.{ℕ, Bool, true, false, ◌-◌, ◌^◌, not, nat_lt, if◌then◌else◌, List, length, slice_index, take, drop, Option, Some, None, codes}
use Rattle.std.specs.List.{slice_range}
use Rattle.std.specs.Str.{bytes_eq}
use Rattle.lw_formula.specs.Name.{is_upper}
use Rattle.lw_formula.specs.Logic.{logic_of}
use Rattle.lw_formula.specs.declared.logic.Logic.{Logic}
use Rattle.lw_formula.specs.declared.joint.Joint.TheVariants.{And, Or, Imp, Iff}
use Rattle.lw_read.specs.declared.lexer.Token.{Token}
use Rattle.lw_read.specs.declared.lexer.TokenKind.{TokenKind}
use Rattle.lw_read.specs.declared.lexer.TokenKind.TheVariants.{Word, Number, Text, Symbol, LongWord, BigNumber, Bad, Stop}
use Rattle.lw_read.specs.Tokens.{decimal}
use Rattle.lw_read.specs.Lexemes.{is_variable}
use Rattle.lw_read.specs.LinesAndColumns.{line_at}
use Rattle.lw_ast.specs.declared.operator.Op.{Op}
use Rattle.lw_ast.specs.declared.operator.Op.TheVariants.{Plus, Minus, Times}
use Rattle.lw_ast.specs.declared.operator.Relation.{Relation}
use Rattle.lw_ast.specs.declared.operator.Relation.TheVariants.{Equal, Unequal, Less, AtMost}
use Rattle.lw_ast.specs.declared.operator.Prefix.{Prefix}
use Rattle.lw_ast.specs.declared.operator.Prefix.TheVariants.{Not, Nec, Poss}
use Rattle.lw_ast.specs.declared.function.Function.{Function}
use Rattle.lw_ast.specs.declared.operator.Series.{Series}
use Rattle.lw_ast.specs.declared.operator.Series.TheVariants.{Sum, Product}
use Rattle.lw_ast.specs.declared.operator.Link.{Link}
use Rattle.lw_ast.specs.declared.operator.Link.TheVariants.{Either, Both, Binary}
use Rattle.lw_ast.specs.Trees.{Expression, number, text, truth, nothing, logic, variable, bot, top}
use Rattle.lw_ast.specs.Functions.{function_of}

-- an expression of one token, a script variable, a sign, a bracket, a word of the statements, the end of the text, or
-- what stands in no script; a token that a statement may begin with has its line
pub data ScriptLexeme : Type 0 where
  Atom : (a : Expression) → ScriptLexeme
  Upper : (line : ℕ) (x : List ℕ) → ScriptLexeme
  Before : (sign : Prefix) → ScriptLexeme
  Deny : ScriptLexeme
  Between : (link : Link) → ScriptLexeme
  Compare : (r : Relation) → ScriptLexeme
  Chained : (chain : Series) (sign : Op) → ScriptLexeme
  Open : ScriptLexeme
  Close : ScriptLexeme
  OpenList : ScriptLexeme
  CloseList : ScriptLexeme
  Comma : ScriptLexeme
  Calls : (f : Function) → ScriptLexeme
  Becomes : ScriptLexeme
  Semicolon : ScriptLexeme
  Print : (line : ℕ) → ScriptLexeme
  If : (line : ℕ) → ScriptLexeme
  Then : ScriptLexeme
  Else : ScriptLexeme
  End : ScriptLexeme
  For : (line : ℕ) → ScriptLexeme
  To : ScriptLexeme
  In : ScriptLexeme
  Do : ScriptLexeme
  While : (line : ℕ) → ScriptLexeme
  Stops : ScriptLexeme
  Foreign : ScriptLexeme

-- a word that is an expression, the words of logics aside
unfoldable pub constant_word : List ℕ → Option ScriptLexeme
constant_word word =
    if bytes_eq word (codes "true") then Some (Atom top) else
    if bytes_eq word (codes "false") then Some (Atom bot) else
    if bytes_eq word (codes "yes") then Some (Atom (truth true)) else
    if bytes_eq word (codes "no") then Some (Atom (truth false)) else
    if bytes_eq word (codes "none") then Some (Atom nothing) else None

-- a word that is an operator
unfoldable pub operator_word : List ℕ → Option ScriptLexeme
operator_word word =
    if bytes_eq word (codes "box") then Some (Before Nec) else
    if bytes_eq word (codes "dia") then Some (Before Poss) else
    if bytes_eq word (codes "v") then Some (Between (Binary Or)) else
    if bytes_eq word (codes "or") then Some (Between Either) else
    if bytes_eq word (codes "and") then Some (Between Both) else
    if bytes_eq word (codes "not") then Some Deny else None

-- a word of the statements, at a line
unfoldable pub statement_word : ℕ → List ℕ → Option ScriptLexeme
statement_word line word =
    if bytes_eq word (codes "print") then Some (Print line) else
    if bytes_eq word (codes "if") then Some (If line) else
    if bytes_eq word (codes "then") then Some Then else
    if bytes_eq word (codes "else") then Some Else else
    if bytes_eq word (codes "end") then Some End else
    if bytes_eq word (codes "for") then Some (For line) else
    if bytes_eq word (codes "to") then Some To else
    if bytes_eq word (codes "in") then Some In else
    if bytes_eq word (codes "do") then Some Do else
    if bytes_eq word (codes "while") then Some (While line) else None

-- a word that begins with an upper-case letter is a script variable; one that begins with a lower-case letter and is
-- not reserved is a propositional variable
unfoldable pub name_sign : ℕ → List ℕ → ScriptLexeme
name_sign line word =
    if is_upper (slice_index word 0) then Upper line word else
    if is_variable word then Atom (variable word) else Foreign

-- what is given, or else this
abbrev pub known : Option ScriptLexeme → ScriptLexeme → ScriptLexeme
known (Some s) t = s
known None t = t

-- the word of a logic, where it is one
abbrev pub logic_sign : Option Logic → ScriptLexeme → ScriptLexeme
logic_sign (Some l) t = Atom (logic l)
logic_sign None t = t

-- the word of a function, where it is one
abbrev pub function_sign : Option Function → ScriptLexeme → ScriptLexeme
function_sign (Some f) t = Calls f
function_sign None t = t

-- what a word at a line is that is no constant and no operator
abbrev pub named_or_name : ℕ → List ℕ → ScriptLexeme
named_or_name line word = logic_sign (logic_of word) (function_sign (function_of word) (name_sign line word))

abbrev pub statement_or_name : ℕ → List ℕ → ScriptLexeme
statement_or_name line word = known (statement_word line word) (named_or_name line word)

-- what a word at a line is
abbrev pub word_sign : ℕ → List ℕ → ScriptLexeme
word_sign line word = known (constant_word word) (known (operator_word word) (statement_or_name line word))

-- a symbol of formulas
unfoldable pub formula_symbol : List ℕ → Option ScriptLexeme
formula_symbol symbol =
    if bytes_eq symbol (codes "~") then Some (Before Not) else
    if bytes_eq symbol (codes "&") then Some (Between (Binary And)) else
    if bytes_eq symbol (codes "->") then Some (Between (Binary Imp)) else
    if bytes_eq symbol (codes "<->") then Some (Between (Binary Iff)) else
    if bytes_eq symbol (codes "(") then Some Open else
    if bytes_eq symbol (codes ")") then Some Close else None

-- a sign of a comparison, a sum or a product
unfoldable pub value_symbol : List ℕ → Option ScriptLexeme
value_symbol symbol =
    if bytes_eq symbol (codes "==") then Some (Compare Equal) else
    if bytes_eq symbol (codes "!=") then Some (Compare Unequal) else
    if bytes_eq symbol (codes "<") then Some (Compare Less) else
    if bytes_eq symbol (codes "<=") then Some (Compare AtMost) else
    if bytes_eq symbol (codes "+") then Some (Chained Sum Plus) else
    if bytes_eq symbol (codes "-") then Some (Chained Sum Minus) else
    if bytes_eq symbol (codes "*") then Some (Chained Product Times) else None

-- what any other symbol is
unfoldable pub other_symbol : List ℕ → ScriptLexeme
other_symbol symbol =
    if bytes_eq symbol (codes "[") then OpenList else
    if bytes_eq symbol (codes "]") then CloseList else
    if bytes_eq symbol (codes ",") then Comma else
    if bytes_eq symbol (codes ";") then Semicolon else
    if bytes_eq symbol (codes ":=") then Becomes else Foreign

-- what a symbol is
abbrev pub symbol_sign : List ℕ → ScriptLexeme
symbol_sign symbol = known (formula_symbol symbol) (known (value_symbol symbol) (other_symbol symbol))

-- the bytes between the quotes of a text
abbrev pub quoted : List ℕ → List ℕ
quoted bytes = take (length bytes - 2) (drop 1 bytes)

-- what a token of this kind with these bytes at a line is
abbrev pub kind_script_lexeme : TokenKind → ℕ → List ℕ → ScriptLexeme
kind_script_lexeme Word line bytes = word_sign line bytes
kind_script_lexeme LongWord line bytes = word_sign line bytes
kind_script_lexeme Number line bytes = Atom (number (decimal bytes))
kind_script_lexeme BigNumber line bytes = Atom (number (decimal bytes))
kind_script_lexeme Text line bytes = Atom (text (quoted bytes))
kind_script_lexeme Symbol line bytes = symbol_sign bytes
kind_script_lexeme Stop line bytes = Stops
kind_script_lexeme Bad line bytes = Foreign

-- what a token of a text is
abbrev pub script_lexeme_of : List ℕ → Token → ScriptLexeme
script_lexeme_of bytes token = kind_script_lexeme token.kind (line_at bytes token.start) (slice_range bytes token.start token.end)

-- a variable of more than 64 bytes, or a number of 2^64 or more
abbrev pub is_long : ScriptLexeme → Bool
is_long (Upper line x) = nat_lt 64 (length x)
is_long (Atom (variable x)) = nat_lt 64 (length x)
is_long (Atom (number n)) = not (nat_lt n (2 ^ 64))
is_long _ = false
