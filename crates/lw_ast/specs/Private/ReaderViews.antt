-- What private contracts see of the reader's values.
use Rattle.std.specs.Prelude.{◌≡◌, ℕ, false, List, Option, Some, None}
use Rattle.lw_read.specs.Tokens.{decimal}
use Rattle.lw_ast.specs.declared.part.Part.{Part}
use Rattle.lw_ast.specs.declared.part.Part.TheVariants as part
use Rattle.lw_ast.specs.declared.construct.Unfinished.{Unfinished}
use Rattle.lw_ast.specs.declared.construct.Unfinished.TheVariants as unfinished
use Rattle.lw_ast.specs.declared.state.Head.{Head}
use Rattle.lw_ast.specs.declared.state.Head.TheVariants as head
use Rattle.lw_ast.specs.declared.state.Compound.{Compound}
use Rattle.lw_ast.specs.declared.state.Compound.TheVariants as compound
use Rattle.lw_ast.specs.declared.state.Enclosing.{Enclosing}
use Rattle.lw_ast.specs.declared.state.Setting.{Setting}
use Rattle.lw_ast.specs.declared.state.Progress.{Progress}
use Rattle.lw_ast.specs.declared.state.Progress.TheVariants as progress
use Rattle.lw_read.specs.declared.lexer.Token.{Token}
use Rattle.lw_read.specs.declared.text_fault.TextFault.{TextFault}
use Rattle.lw_read.specs.Constructs.{frames_of}
use Rattle.lw_read.specs.Machine.{Refuses}
use Rattle.lw_ast.specs.ScriptGrammar.{script_language}
use Rattle.lw_ast.specs.ScriptViews.{expression, expressions, operands, statements}
use Rattle.lw_ast.specs.Private.ScriptMachine as machine
use Rattle.lw_ast.specs.Private.ScriptMachine.{Frame, Prefixed, Denied, Left, Compared, Linked, Bracket, Listed, Called, Assigning, Printing, Choosing, Counting, Bounding, Listing, Repeating, Yes, No, Counted, EachOf, Repeated, Within, In', State, Need, Have, Calling, At, Named, Looping, LoopNamed, Done, script_machine}
use Rattle.lw_ast.specs.Trees.{number, text, truth, nothing, logic, bot, top}
use Rattle.lw_ast.specs.ScriptLexemes.{ScriptLexeme, Atom, Before, Deny, Between, Compare, Chained, Open, Close, OpenList, CloseList, Comma, Calls, Becomes, Semicolon, Print, If, Then, Else, End, For, To, In, Do, While, Stops, Foreign, name_sign, quoted, is_long}

-- what the part of a text with these bytes at a line is
abbrev pub lexeme : Part → ℕ → List ℕ → ScriptLexeme
lexeme part.Word line bytes = name_sign line bytes
lexeme part.Number line bytes = Atom (number (decimal bytes))
lexeme part.Text line bytes = Atom (text (quoted bytes))
lexeme part.Top line bytes = Atom top
lexeme part.Bot line bytes = Atom bot
lexeme (part.Truth is) line bytes = Atom (truth is)
lexeme part.Nothing line bytes = Atom nothing
lexeme (part.Logic l) line bytes = Atom (logic l)
lexeme (part.Before sign) line bytes = Before sign
lexeme part.Deny line bytes = Deny
lexeme (part.Between link) line bytes = Between link
lexeme (part.Compare r) line bytes = Compare r
lexeme (part.Chained k s) line bytes = Chained k s
lexeme part.Open line bytes = Open
lexeme part.Close line bytes = Close
lexeme part.OpenList line bytes = OpenList
lexeme part.CloseList line bytes = CloseList
lexeme part.Comma line bytes = Comma
lexeme (part.Calls f) line bytes = Calls f
lexeme part.Becomes line bytes = Becomes
lexeme part.Semicolon line bytes = Semicolon
lexeme part.Print line bytes = Print line
lexeme part.If line bytes = If line
lexeme part.Then line bytes = Then
lexeme part.Else line bytes = Else
lexeme part.End line bytes = End
lexeme part.For line bytes = For line
lexeme part.To line bytes = To
lexeme part.In line bytes = In
lexeme part.Do line bytes = Do
lexeme part.While line bytes = While line
lexeme part.Stops line bytes = Stops
lexeme part.Foreign line bytes = Foreign

-- the same of a part that may be there
abbrev pub some_lexeme : Option Part → ℕ → List ℕ → Option ScriptLexeme
some_lexeme (Some p) line bytes = Some (lexeme p line bytes)
some_lexeme None line bytes = None

abbrev pub frame : Unfinished → Frame
frame (unfinished.Prefixed sign) = Prefixed sign
frame unfinished.Denied = Denied
frame (unfinished.Left link a) = Left link (expression a)
frame (unfinished.Compared r a) = Compared r (expression a)
frame (unfinished.Linked k a bs s) = Linked k (expression a) (operands bs) s
frame unfinished.Bracket = Bracket
frame (unfinished.Listed es) = Listed (expressions es)
frame (unfinished.Called f es) = Called f (expressions es)

-- the stack has the innermost construct last
abbrev pub frames : List Unfinished → List Frame
frames items = frames_of frame items

-- what an expression of a statement is for
abbrev pub head_of : Head → machine.Head
head_of (head.Assigning x) = Assigning x
head_of (head.Printing es) = Printing (expressions es)
head_of head.Choosing = Choosing
head_of (head.Counting x) = Counting x
head_of (head.Bounding x a) = Bounding x (expression a)
head_of (head.Listing x) = Listing x
head_of head.Repeating = Repeating

abbrev pub compound_of : Compound → machine.Compound
compound_of (compound.Yes a) = Yes (expression a)
compound_of (compound.No a first) = No (expression a) (statements first)
compound_of (compound.Counted x a b) = Counted x (expression a) (expression b)
compound_of (compound.EachOf x a) = EachOf x (expression a)
compound_of (compound.Repeated a) = Repeated (expression a)

abbrev pub enclosing_of : Enclosing → machine.Enclosing
enclosing_of e = Within (statements e.before) e.line (compound_of e.shape)

-- the list has the innermost statement last
abbrev pub bodies_of : List Enclosing → List machine.Enclosing
bodies_of items = frames_of enclosing_of items

abbrev pub setting_of : Setting → machine.Setting
setting_of p = In' (bodies_of p.bodies.items) (statements p.before) p.line (head_of p.head)

abbrev pub state_of : Progress → State
state_of (progress.Needed stack p) = Need (frames stack.items) (setting_of p)
state_of (progress.Operand a stack p) = Have (expression a) (frames stack.items) (setting_of p)
state_of (progress.Calling f stack p) = Calling f (frames stack.items) (setting_of p)
state_of (progress.Between bs ss) = At (statements ss) (bodies_of bs.items)
state_of (progress.Named x line bs ss) = Named x line (statements ss) (bodies_of bs.items)
state_of (progress.Looping line bs ss) = Looping line (statements ss) (bodies_of bs.items)
state_of (progress.LoopNamed x line bs ss) = LoopNamed x line (statements ss) (bodies_of bs.items)
state_of (progress.Over ss) = Done (statements ss)

-- the token leads to the state, and isn't too long
abbrev pub IsStep : ScriptLexeme → State → Progress → Type 0
IsStep t s next = (state_of next ≡ s) × (is_long t ≡ false)

-- the token that would lead to the state has the fault
abbrev pub IsRefused : ScriptLexeme → State → Token → TextFault → Type 0
IsRefused t s token fault = Refuses script_language script_machine t s token fault
