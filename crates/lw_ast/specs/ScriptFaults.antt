-- What a text is as a script: its statements, or its first fault with its line and column.
use Rattle.std.specs.Prelude.{◌≡◌, ◌≢◌, ℕ, List}
use Rattle.lw_read.specs.declared.lexer.Token.{Token}
use Rattle.lw_read.specs.declared.lexer.TokenKind.{TokenKind}
use Rattle.lw_read.specs.declared.lexer.TokenKind.TheVariants as token
use Rattle.lw_read.specs.declared.text_fault.TextFault.{TextFault}
use Rattle.lw_read.specs.declared.text_fault.TextFault.TheVariants as text
use Rattle.lw_read.specs.LinesAndColumns.{line_at, column_at}
use Rattle.lw_read.specs.Places.{Grammar}
use Rattle.lw_read.specs.Language.{grammar_of, ReadsIn, IsFaultIn}
use Rattle.lw_ast.specs.declared.fault.ScriptFault.{ScriptFault}
use Rattle.lw_ast.specs.declared.fault.ScriptFault.TheVariants.{Syntax, Memory}
use Rattle.lw_ast.specs.declared.fault.SyntaxWhy.{SyntaxWhy}
use Rattle.lw_ast.specs.declared.fault.SyntaxWhy.TheVariants.{Unexpected, Nested, Name, Number}
use Rattle.lw_ast.specs.Trees.{Statements}
use Rattle.lw_ast.specs.ScriptLexemes.{ScriptLexeme}
use Rattle.lw_ast.specs.ScriptGrammar.{IsScript, script_language}

-- what is too long about a token of this kind
abbrev pub why_long : TokenKind → SyntaxWhy
why_long token.Number = Number
why_long token.BigNumber = Number
why_long token.Word = Name
why_long token.LongWord = Name
why_long token.Text = Name
why_long token.Symbol = Name
why_long token.Bad = Name
why_long token.Stop = Name

-- a fault at the first byte of a token
abbrev pub syntax_fault : List ℕ → Token → SyntaxWhy → ScriptFault
syntax_fault bytes token why = Syntax (line_at bytes token.start) (column_at bytes token.start) why

-- the fault of a script's text
abbrev pub script_fault : List ℕ → TextFault → ScriptFault
script_fault bytes (text.Unexpected token) = syntax_fault bytes token Unexpected
script_fault bytes (text.TooLong token) = syntax_fault bytes token (why_long token.kind)
script_fault bytes (text.Nested token) = syntax_fault bytes token Nested
script_fault bytes text.Memory = Memory

-- the grammar of scripts
abbrev pub scripts : Grammar ScriptLexeme
scripts = grammar_of script_language

-- the text has no fault, and these statements
abbrev pub ReadsAsScript : List ℕ → Statements → Type 0
ReadsAsScript bytes ss = ReadsIn script_language bytes ss

-- the fault is the first one of the text, at the line and the column of its token
abbrev pub IsScriptFaultOf : List ℕ → ScriptFault → Type 0
IsScriptFaultOf bytes fault = (e : TextFault) × IsFaultIn script_language bytes e × (fault ≡ script_fault bytes e)

-- tokens are at most one script
abbrev pub HasOneScript : List ScriptLexeme → Type 0
HasOneScript ts = (ss us : Statements) → IsScript ts ss → IsScript ts us → ss ≡ us

-- a text has at most one fault, want of memory aside
abbrev pub HasOneScriptFault : List ℕ → Type 0
HasOneScriptFault bytes =
    (fault other : ScriptFault) → IsScriptFaultOf bytes fault → IsScriptFaultOf bytes other → fault ≢ Memory → other ≢ Memory →
    fault ≡ other

-- a text that reads as a script has no fault: nothing but want of memory keeps it from being read
abbrev pub HasOneScriptAnswer : List ℕ → Type 0
HasOneScriptAnswer bytes = (ss : Statements) (fault : ScriptFault) → ReadsAsScript bytes ss → IsScriptFaultOf bytes fault → fault ≡ Memory
