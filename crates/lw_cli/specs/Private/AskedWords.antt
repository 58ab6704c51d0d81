-- What reading the words of the command line, and then the store, gives.
use Rattle.std.specs.Prelude.{◌≡◌, ℕ, List, [], Option, Some, None, ⊤}
use Rattle.std.specs.Fmt.{decimal}
use Rattle.lw_io.specs.Files.{Files, IsHeldPart}
use Rattle.lw_cli.specs.declared.asked.Command.{Command}
use Rattle.lw_cli.specs.declared.asked.Command.TheVariants.{Run, Check, Gen}
use Rattle.lw_cli.specs.Asked.{IsInReach}

-- this is the number that `gen` takes whose decimal digits the word is, or there is none
abbrev pub IsNumberOf : List ℕ → Option ℕ → Type 0
IsNumberOf word (Some n) = IsInReach n × (word ≡ decimal n)
IsNumberOf word None = (n : ℕ) → IsInReach n → ¬ (word ≡ decimal n)

-- the command's number, if it has one, is one that it takes
abbrev pub HasNumberInReach : Command → Type 0
HasNumberInReach (Run file) = ⊤
HasNumberInReach (Check file) = ⊤
HasNumberInReach (Gen n) = IsInReach n

-- these are the first n bytes of what the command reads, or all of fewer
abbrev pub IsReadPart : Option Files → Command → ℕ → List ℕ → Type 0
IsReadPart holds (Run file) n part = IsHeldPart holds file n part
IsReadPart holds (Check file) n part = IsHeldPart holds file n part
IsReadPart holds (Gen number) n part = part ≡ []
