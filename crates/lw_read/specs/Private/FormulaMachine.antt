-- The machine that reads formulas token by token. Only private contracts speak of it: that it does what the grammar
-- says is proved.
use Rattle.std.specs.Prelude.{ℕ, List, [], ◌∷◌, length}
use Rattle.lw_formula.specs.Formula.{Formula, letter, falsum, verum}
use Rattle.lw_read.specs.declared.lexeme.Prefix.{Prefix}
use Rattle.lw_formula.specs.declared.joint.Joint.{Joint}
use Rattle.lw_read.specs.Lexemes.{Lexeme, Variable, Truth, Falsity, Before, Between, Open, Close, End}
use Rattle.lw_formula.specs.Joint.{join}
use Rattle.lw_read.specs.Grammar.{rank, apply}
use Rattle.lw_read.specs.Machine as machine
use Rattle.lw_read.specs.Machine.{Machine}
use Rattle.lw_read.specs.Constructs.{Constructs, reduce}

-- a construct that waits for its end: a prefix for its operand, a connective with its left operand for the right one,
-- an open bracket for the closing one
pub data Frame : Type 0 where
  Awaiting : (sign : Prefix) → Frame
  Left : (sign : Joint) (a : Formula) → Frame
  Bracket : Frame

-- an operand is needed, or one is there, before the unfinished constructs, the innermost first; the text is over; or
-- no text goes on so
pub data State : Type 0 where
  Need : (frames : List Frame) → State
  Have : (a : Formula) (frames : List Frame) → State
  Over : (a : Formula) → State
  Astray : State

-- the level of the expression that a construct ends as; a bracket ends by its closing one alone
abbrev pub frame_rank : Frame → ℕ
frame_rank (Awaiting sign) = 5
frame_rank (Left sign a) = rank sign
frame_rank Bracket = 0

-- a construct with its last operand
abbrev pub finish : Frame → Formula → Formula
finish (Awaiting sign) b = apply sign b
finish (Left sign a) b = join sign a b
finish Bracket b = b

abbrev pub formula_constructs : Constructs Frame Formula
formula_constructs = record { rank = frame_rank; finish = finish }

-- a closing bracket ends the innermost open one
abbrev pub close : Formula → List Frame → State
close a (Bracket ∷ fs) = Have a fs
close a _ = Astray

-- the end of the text leaves nothing unfinished
abbrev pub stop : Formula → List Frame → State
stop a [] = Over a
stop a _ = Astray

-- where an operand is needed
abbrev pub begin : Lexeme → List Frame → State
begin (Variable x) fs = Have (letter x) fs
begin Truth fs = Have verum fs
begin Falsity fs = Have falsum fs
begin (Before sign) fs = Need (Awaiting sign ∷ fs)
begin Open fs = Need (Bracket ∷ fs)
begin _ fs = Astray

-- how tightly a token binds that stands behind an operand
abbrev pub lexeme_rank : Lexeme → ℕ
lexeme_rank (Between sign) = rank sign
lexeme_rank _ = 0

-- what a token makes of the operand before it, once the constructs that bind tighter are ended
abbrev pub follow : Lexeme → Formula → List Frame → State
follow (Between sign) a fs = Need (Left sign a ∷ fs)
follow Close a fs = close a fs
follow End a fs = stop a fs
follow _ a fs = Astray

-- where an operand is there
abbrev pub go_on : Lexeme → Formula → List Frame → State
go_on t a fs = reduce formula_constructs (follow t) (lexeme_rank t) a fs

-- one token
abbrev pub step : Lexeme → State → State
step t (Need fs) = begin t fs
step t (Have a fs) = go_on t a fs
step t (Over a) = Astray
step t Astray = Astray

-- how many constructs are unfinished
abbrev pub height : State → ℕ
height (Need fs) = length fs
height (Have a fs) = length fs
height (Over a) = 0
height Astray = 0

abbrev pub formula_machine : Machine Lexeme Formula State
formula_machine = record { start = Need []; step = step; astray = Astray; over = Over; height = height }

-- some tokens
abbrev pub run : List Lexeme → State → State
run = machine.run formula_machine
