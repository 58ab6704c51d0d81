-- What private contracts see of the reader's values.
use Rattle.std.specs.Prelude.{◌≡◌, ℕ, false, List}
use Rattle.lw_formula.specs.Formula.{Formula, letter}
use Rattle.lw_formula.specs.Tree.{tree_of}
use Rattle.lw_read.specs.declared.lexeme.Part.{Part}
use Rattle.lw_read.specs.declared.lexeme.Part.TheVariants as part
use Rattle.lw_read.specs.declared.reader.Unfinished.{Unfinished}
use Rattle.lw_read.specs.declared.reader.Unfinished.TheVariants as unfinished
use Rattle.lw_read.specs.declared.reader.Progress.{Progress}
use Rattle.lw_read.specs.declared.reader.Progress.TheVariants as progress
use Rattle.lw_read.specs.Lexemes.{Lexeme, Variable, Truth, Falsity, Before, Between, Open, Close, End, Foreign, other_lexeme, is_long}
use Rattle.lw_read.specs.Constructs.{frames_of}
use Rattle.lw_read.specs.Private.FormulaMachine.{Frame, Awaiting, Left, Bracket, State, Need, Have, Over}

-- what the part of a text with these bytes is
abbrev pub lexeme : Part → List ℕ → Lexeme
lexeme part.Word bytes = other_lexeme bytes
lexeme part.Truth bytes = Truth
lexeme part.Falsity bytes = Falsity
lexeme (part.Before sign) bytes = Before sign
lexeme (part.Between sign) bytes = Between sign
lexeme part.Open bytes = Open
lexeme part.Close bytes = Close
lexeme part.End bytes = End
lexeme part.Foreign bytes = Foreign

abbrev pub frame : Unfinished → Frame
frame (unfinished.Prefixed sign) = Awaiting sign
frame (unfinished.Left sign a) = Left sign (tree_of a)
frame unfinished.Bracket = Bracket

-- the stack has the innermost construct last
abbrev pub frames : List Unfinished → List Frame
frames items = frames_of frame items

abbrev pub state : Progress → List Frame → State
state progress.Needed fs = Need fs
state (progress.Operand a) fs = Have (tree_of a) fs
state (progress.Over a) fs = Over (tree_of a)

-- the word is a variable of at most 64 bytes, and the formula is it
pub record IsShortVariable (word : List ℕ) (a : Formula) : Type 0 where
  pub is : other_lexeme word ≡ Variable word
  pub short : is_long (other_lexeme word) ≡ false
  pub tree : a ≡ letter word
