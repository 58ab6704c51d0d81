-- What the program's top call promises of its output: the words of its clauses.
-- A store or a sink that doesn't tell its bytes meets `IsHeld`, `Adds` and `AddsPart` with any bytes; where both tell, these
-- fix the bytes that are read and the output.
use Rattle.std.specs.Prelude.{◌≡◌, ◌⊎◌, ℕ, Bool, List, [], Option, ⊤}
use Rattle.lw_io.specs.Files.{Files, IsHeld, IsSure}
use Rattle.lw_io.specs.Output.{Adds, AddsPart}
use Rattle.lw_cli.specs.declared.asked.Command.{Command}
use Rattle.lw_cli.specs.declared.asked.Command.TheVariants.{Run, Check, Gen}
use Rattle.lw_cli.specs.Asked.{Ask}
use Rattle.lw_cli.specs.Commands.{Outcome, IsBegun}

-- these bytes are what the command reads: those of the file of its name that the store holds; `gen` reads nothing
abbrev pub IsRead : Option Files → Command → List ℕ → Type 0
IsRead holds (Run file) bytes = IsHeld holds file bytes
IsRead holds (Check file) bytes = IsHeld holds file bytes
IsRead holds (Gen n) bytes = bytes ≡ []

-- the command fetches no file
abbrev pub FetchesNothing : Command → Type 0
FetchesNothing (Run file) = ⊥
FetchesNothing (Check file) = ⊥
FetchesNothing (Gen n) = ⊤

-- the command allows this output and this status over what it reads of the store
pub record IsOutput (command : Command) (holds : Option Files) (out : List ℕ) (status : ℕ) : Type 0 where
  pub bytes : List ℕ
  pub read : IsRead holds command bytes
  pub outcome : Outcome command bytes out status

-- the words are a command, and P holds of it
abbrev pub AsksFor : List (List ℕ) → (Command → Type 0) → Type 0
AsksFor words P = (command : Command) × Ask words command × P command

-- what was written between the two moments is the whole of an output that the command allows with this status
pub record Answers (command : Command) (holds : Option Files) (before now : Option (List ℕ)) (status : ℕ) : Type 0 where
  pub out : List ℕ
  pub output : IsOutput command holds out status
  pub written : Adds before now out

-- what was written between the two moments is a first part of an output that the command allows
pub record AnswersPart (command : Command) (holds : Option Files) (before now : Option (List ℕ)) : Type 0 where
  pub out : List ℕ
  pub status : ℕ
  pub output : IsOutput command holds out status
  pub written : AddsPart before now out

-- what was written between the two moments is all that the command, where it was cut, has written
pub record AnswersBegun (command : Command) (holds : Option Files) (before now : Option (List ℕ)) : Type 0 where
  pub bytes : List ℕ
  pub read : IsRead holds command bytes
  pub out : List ℕ
  pub begun : IsBegun command bytes out
  pub written : Adds before now out

-- what was written between the two moments is the one or the other
abbrev pub IsCutShort : Command → Option Files → Option (List ℕ) → Option (List ℕ) → Type 0
IsCutShort command holds before now = AnswersPart command holds before now ⊎ AnswersBegun command holds before now

-- the store is sure of the command's file, if it has one
abbrev pub IsSureOf : Bool → Option Files → Command → Type 0
IsSureOf sure holds (Run file) = IsSure sure holds file
IsSureOf sure holds (Check file) = IsSure sure holds file
IsSureOf sure holds (Gen n) = ⊤

-- the command has a file, and the store isn't sure of it
abbrev pub IsUnsureOf : Bool → Option Files → Command → Type 0
IsUnsureOf sure holds command = ¬ IsSureOf sure holds command
