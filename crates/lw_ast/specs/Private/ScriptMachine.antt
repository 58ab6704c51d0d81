-- The machine that reads scripts token by token. Only private contracts speak of it: that it does what the grammar says
-- is proved.
use Rattle.std.specs.Prelude.{ℕ, suc, Bool, true, false, ◌+◌, nat_eq, nat_le, nat_lt, if◌then◌else◌, List, [], ◌∷◌, length, sum_by}
use Rattle.lw_read.specs.Machine.{Machine}
use Rattle.lw_read.specs.Constructs.{Constructs, reduce}
use Rattle.lw_ast.specs.declared.operator.Op.{Op}
use Rattle.lw_ast.specs.declared.operator.Relation.{Relation}
use Rattle.lw_ast.specs.declared.operator.Prefix.{Prefix}
use Rattle.lw_ast.specs.declared.function.Function.{Function}
use Rattle.lw_ast.specs.declared.operator.Series.{Series}
use Rattle.lw_ast.specs.declared.operator.Series.TheVariants.{Sum, Product}
use Rattle.lw_ast.specs.declared.operator.Link.{Link}
use Rattle.lw_ast.specs.Trees.{Expression, upper, prefixed, linked, chained, compared, denied, list, call, Expressions, none, put, count, Operands, no_more, add, sign_count, Kind, assign, print, choose, count_up, each, repeat, at, Statements, over, behind}
use Rattle.lw_ast.specs.ScriptLexemes.{ScriptLexeme, Atom, Upper, Before, Deny, Between, Compare, Chained, Open, Close, OpenList, CloseList, Comma, Calls, Becomes, Semicolon, Print, If, Then, Else, End, For, To, In, Do, While, Stops}
use Rattle.lw_ast.specs.Functions.{arity}
use Rattle.lw_ast.specs.ScriptGrammar.{link_level, chain_level}

-- a construct of an expression that waits for its end
pub data Frame : Type 0 where
  Prefixed : (sign : Prefix) → Frame
  Denied : Frame
  Left : (link : Link) (a : Expression) → Frame
  Compared : (r : Relation) (a : Expression) → Frame
  Linked : (k : Series) (a : Expression) (bs : Operands) (s : Op) → Frame
  Bracket : Frame
  Listed : (bs : Expressions) → Frame
  Called : (f : Function) (bs : Expressions) → Frame

-- what an expression of a statement is for
pub data Head : Type 0 where
  Assigning : (x : List ℕ) → Head
  Printing : (es : Expressions) → Head
  Choosing : Head
  Counting : (x : List ℕ) → Head
  Bounding : (x : List ℕ) (a : Expression) → Head
  Listing : (x : List ℕ) → Head
  Repeating : Head

-- a statement whose statements are being read
pub data Compound : Type 0 where
  Yes : (a : Expression) → Compound
  No : (a : Expression) (first : Statements) → Compound
  Counted : (x : List ℕ) (a b : Expression) → Compound
  EachOf : (x : List ℕ) (a : Expression) → Compound
  Repeated : (a : Expression) → Compound

-- with the statements before it and its line
pub data Enclosing : Type 0 where
  Within : (before : Statements) (line : ℕ) (shape : Compound) → Enclosing

-- a statement with an expression that is being read, behind some statements, within others
pub data Setting : Type 0 where
  In' : (bodies : List Enclosing) (before : Statements) (line : ℕ) (head : Head) → Setting

-- an operand is needed, or is there; the bracket of a call is needed; a statement may begin; the `:=` behind a script
-- variable, the variable behind `for`, or what follows it, is needed; the text is over; or no text goes on so
pub data State : Type 0 where
  Need : (frames : List Frame) (p : Setting) → State
  Have : (a : Expression) (frames : List Frame) (p : Setting) → State
  Calling : (f : Function) (frames : List Frame) (p : Setting) → State
  At : (ss : Statements) (bodies : List Enclosing) → State
  Named : (x : List ℕ) (line : ℕ) (ss : Statements) (bodies : List Enclosing) → State
  Looping : (line : ℕ) (ss : Statements) (bodies : List Enclosing) → State
  LoopNamed : (x : List ℕ) (line : ℕ) (ss : Statements) (bodies : List Enclosing) → State
  Done : (ss : Statements) → State
  Astray : State

-- the level of the expression that a construct ends as
abbrev pub frame_level : Frame → ℕ
frame_level (Prefixed sign) = 11
frame_level Denied = 3
frame_level (Left link a) = link_level link
frame_level (Compared r a) = 4
frame_level (Linked k a bs s) = chain_level k
frame_level Bracket = 0
frame_level (Listed bs) = 0
frame_level (Called f bs) = 0

-- the least level of its operand
abbrev pub hole : Frame → ℕ
hole (Prefixed sign) = 11
hole Denied = 3
hole (Left link a) = link_level link
hole (Compared r a) = 5
hole (Linked k a bs s) = chain_level k + 1
hole Bracket = 1
hole (Listed bs) = 1
hole (Called f bs) = 1

abbrev pub top_hole : List Frame → ℕ
top_hole [] = 1
top_hole (f ∷ fs) = hole f

-- how many signs are unfinished in it
abbrev pub weight : Frame → ℕ
weight (Linked k a bs s) = suc (sign_count bs)
weight _ = 1

-- a construct with its last operand
abbrev pub finish : Frame → Expression → Expression
finish (Prefixed sign) b = prefixed sign b
finish Denied b = denied b
finish (Left link a) b = linked link a b
finish (Compared r a) b = compared r a b
finish (Linked k a bs s) b = chained k a (add bs s b)
finish Bracket b = b
finish (Listed bs) b = b
finish (Called f bs) b = b

abbrev pub script_constructs : Constructs Frame Expression
script_constructs = record { rank = frame_level; finish = finish }

-- where the innermost construct takes an expression of this level
abbrev pub where_fits : ℕ → List Frame → State → State
where_fits n fs s = if nat_le (top_hole fs) n then s else Astray

-- where an operand is needed
abbrev pub begin : ScriptLexeme → List Frame → Setting → State
begin (Atom a) fs p = Have a fs p
begin (Upper line x) fs p = Have (upper x) fs p
begin (Before sign) fs p = Need (Prefixed sign ∷ fs) p
begin Deny fs p = where_fits 3 fs (Need (Denied ∷ fs) p)
begin Open fs p = Need (Bracket ∷ fs) p
begin OpenList fs p = Need (Listed none ∷ fs) p
begin CloseList (Listed none ∷ fs) p = Have (list none) fs p
begin (Calls f) fs p = Calling f fs p
begin _ fs p = Astray

-- how tightly a token binds that stands behind an operand
abbrev pub sign_level : ScriptLexeme → ℕ
sign_level (Between link) = link_level link
sign_level (Compare r) = 4
sign_level (Chained k s) = chain_level k
sign_level _ = 0

-- a further sign of the innermost sum or product, or the first one
abbrev pub chain : Series → Op → Expression → List Frame → Setting → State
chain Sum s a (Linked Sum b bs t ∷ fs) p = Need (Linked Sum b (add bs t a) s ∷ fs) p
chain Product s a (Linked Product b bs t ∷ fs) p = Need (Linked Product b (add bs t a) s ∷ fs) p
chain k s a fs p = where_fits (chain_level k) fs (Need (Linked k a no_more s ∷ fs) p)

-- whether the innermost construct is such a sum or product
abbrev pub is_chained : Series → List Frame → Bool
is_chained Sum (Linked Sum b bs t ∷ fs) = true
is_chained Product (Linked Product b bs t ∷ fs) = true
is_chained k fs = false

abbrev pub close : Expression → List Frame → Setting → State
close a (Bracket ∷ fs) p = Have a fs p
close a (Called f bs ∷ fs) p = if nat_eq (count bs + 1) (arity f) then Have (call f (put bs a)) fs p else Astray
close a _ p = Astray

abbrev pub close_list : Expression → List Frame → Setting → State
close_list a (Listed bs ∷ fs) p = Have (list (put bs a)) fs p
close_list a _ p = Astray

abbrev pub comma : Expression → List Frame → Setting → State
comma a (Listed bs ∷ fs) p = Need (Listed (put bs a) ∷ fs) p
comma a (Called f bs ∷ fs) p = if nat_lt (count bs + 1) (arity f) then Need (Called f (put bs a) ∷ fs) p else Astray
comma a [] (In' bs ss line (Printing es)) = Need [] (In' bs ss line (Printing (put es a)))
comma a _ p = Astray

-- a token that ends an expression of a statement
abbrev pub leave : ScriptLexeme → Expression → Setting → State
leave Semicolon a (In' bs ss line (Assigning x)) = At (behind ss (at line (assign x a))) bs
leave Semicolon a (In' bs ss line (Printing es)) = At (behind ss (at line (print (put es a)))) bs
leave Then a (In' bs ss line Choosing) = At over (Within ss line (Yes a) ∷ bs)
leave To a (In' bs ss line (Counting x)) = Need [] (In' bs ss line (Bounding x a))
leave Do a (In' bs ss line (Bounding x b)) = At over (Within ss line (Counted x b a) ∷ bs)
leave Do a (In' bs ss line (Listing x)) = At over (Within ss line (EachOf x a) ∷ bs)
leave Do a (In' bs ss line Repeating) = At over (Within ss line (Repeated a) ∷ bs)
leave _ a p = Astray

-- nothing of the expression is unfinished
abbrev pub leave_all : ScriptLexeme → Expression → List Frame → Setting → State
leave_all t a [] p = leave t a p
leave_all t a _ p = Astray

-- what a token makes of the operand before it, once the constructs that bind tighter are ended
abbrev pub go_on : Setting → ScriptLexeme → Expression → List Frame → State
go_on p (Between link) a fs = where_fits (link_level link) fs (Need (Left link a ∷ fs) p)
go_on p (Compare r) a fs = where_fits 4 fs (Need (Compared r a ∷ fs) p)
go_on p (Chained k s) a fs = chain k s a fs p
go_on p Close a fs = close a fs p
go_on p CloseList a fs = close_list a fs p
go_on p Comma a fs = comma a fs p
go_on p t a fs = leave_all t a fs p

abbrev pub open_call : ScriptLexeme → Function → List Frame → Setting → State
open_call Open f fs p = Need (Called f none ∷ fs) p
open_call _ f fs p = Astray

-- the statement with the statements in it
abbrev pub kind_of : Compound → Statements → Kind
kind_of (Yes a) ss = choose a ss over
kind_of (No a first) ss = choose a first ss
kind_of (Counted x a b) ss = count_up x a b ss
kind_of (EachOf x a) ss = each x a ss
kind_of (Repeated a) ss = repeat a ss

abbrev pub end : Statements → List Enclosing → State
end ss (Within before line shape ∷ bs) = At (behind before (at line (kind_of shape ss))) bs
end ss [] = Astray

abbrev pub otherwise : Statements → List Enclosing → State
otherwise ss (Within before line (Yes a) ∷ bs) = At over (Within before line (No a ss) ∷ bs)
otherwise ss _ = Astray

abbrev pub stop : Statements → List Enclosing → State
stop ss [] = Done ss
stop ss _ = Astray

-- where a statement may begin
abbrev pub state : ScriptLexeme → Statements → List Enclosing → State
state (Upper line x) ss bs = Named x line ss bs
state (Print line) ss bs = Need [] (In' bs ss line (Printing none))
state (If line) ss bs = Need [] (In' bs ss line Choosing)
state (For line) ss bs = Looping line ss bs
state (While line) ss bs = Need [] (In' bs ss line Repeating)
state End ss bs = end ss bs
state Else ss bs = otherwise ss bs
state Stops ss bs = stop ss bs
state _ ss bs = Astray

-- behind the variable that a statement begins with
abbrev pub name : ScriptLexeme → List ℕ → ℕ → Statements → List Enclosing → State
name Becomes x line ss bs = Need [] (In' bs ss line (Assigning x))
name _ x line ss bs = Astray

-- behind `for`
abbrev pub loop : ScriptLexeme → ℕ → Statements → List Enclosing → State
loop (Upper there x) line ss bs = LoopNamed x line ss bs
loop _ line ss bs = Astray

-- behind `for` and a variable
abbrev pub loop_name : ScriptLexeme → List ℕ → ℕ → Statements → List Enclosing → State
loop_name Becomes x line ss bs = Need [] (In' bs ss line (Counting x))
loop_name In x line ss bs = Need [] (In' bs ss line (Listing x))
loop_name _ x line ss bs = Astray

-- one token
abbrev pub step : ScriptLexeme → State → State
step t (Need fs p) = begin t fs p
step t (Have a fs p) = reduce script_constructs (go_on p t) (sign_level t) a fs
step t (Calling f fs p) = open_call t f fs p
step t (At ss bs) = state t ss bs
step t (Named x line ss bs) = name t x line ss bs
step t (Looping line ss bs) = loop t line ss bs
step t (LoopNamed x line ss bs) = loop_name t x line ss bs
step t (Done ss) = Astray
step t Astray = Astray

-- how many constructs of statements are unfinished while an expression is read
abbrev pub head_weight : Head → ℕ
head_weight (Assigning x) = 0
head_weight (Printing es) = 0
head_weight Choosing = 1
head_weight (Counting x) = 1
head_weight (Bounding x a) = 1
head_weight (Listing x) = 1
head_weight Repeating = 1

abbrev pub base : Setting → ℕ
base (In' bs ss line head) = length bs + head_weight head

abbrev pub load : Setting → List Frame → ℕ
load p fs = base p + sum_by weight fs

-- how many constructs are unfinished
abbrev pub height : State → ℕ
height (Need fs p) = load p fs
height (Have a fs p) = load p fs
height (Calling f fs p) = load p fs
height (At ss bs) = length bs
height (Named x line ss bs) = length bs
height (Looping line ss bs) = length bs + 1
height (LoopNamed x line ss bs) = length bs + 1
height (Done ss) = 0
height Astray = 0

abbrev pub script_machine : Machine ScriptLexeme Statements State
script_machine = record { start = At over []; step = step; astray = Astray; over = Done; height = height }
