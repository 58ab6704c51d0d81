-- The shapes of the command line.
use Rattle.std.specs.Prelude.{◌≡◌, ℕ, ◌≤◌, List, [], ◌∷◌, Option, Some, None, codes}
use Rattle.std.specs.Fmt.{decimal}
use Rattle.lw_cli.specs.declared.asked.Command.{Command}
use Rattle.lw_cli.specs.declared.asked.Command.TheVariants.{Run, Check, Gen}

-- the numbers that `gen` takes
abbrev pub IsInReach : ℕ → Type 0
IsInReach n = (1 ≤ n) × (n ≤ 100)

-- the words ask for the command: `run FILE`, `check FILE`, or `gen N`, with the decimal digits of a number from 1 to 100
abbrev pub Ask : List (List ℕ) → Command → Type 0
Ask words (Run file) = words ≡ codes "run" ∷ file ∷ []
Ask words (Check file) = words ≡ codes "check" ∷ file ∷ []
Ask words (Gen n) = IsInReach n × (words ≡ codes "gen" ∷ decimal n ∷ [])

-- the words are no command
abbrev pub AskNothing : List (List ℕ) → Type 0
AskNothing words = (command : Command) → ¬ Ask words command

-- this is the command that the words ask for, or they ask for none
abbrev pub IsCommandOf : List (List ℕ) → Option Command → Type 0
IsCommandOf words (Some command) = Ask words command
IsCommandOf words None = AskNothing words
