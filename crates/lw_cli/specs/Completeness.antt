-- Where nothing may be said to be wrong with a command's file.
use Rattle.std.specs.Prelude.{◌≡◌, ℕ, ◌≤◌, List, length, Option, Some, None}
use Rattle.lw_io.specs.Files.{Files, bytes_at}
use Rattle.lw_ast.specs.Trees.{Statements}
use Rattle.lw_ast.specs.ScriptFaults.{ReadsAsScript}
use Rattle.lw_eval.specs.declared.trouble.Trouble.{Trouble}
use Rattle.lw_eval.specs.Runs.{Stopped}
use Rattle.lw_eval.specs.Outputs.{Allows}
use Rattle.lw_cli.specs.declared.asked.Command.{Command}
use Rattle.lw_cli.specs.declared.asked.Command.TheVariants.{Run, Check, Gen}
use Rattle.lw_cli.specs.FileLimit.{file_limit}

-- no run that the script allows ends in a trouble
abbrev pub NeverStops : Statements → Type 0
NeverStops script = (out : List ℕ) (line : ℕ) (t : Trouble) → ¬ Allows script out (Stopped line t)

-- these bytes are within the limit, and are a script that never stops
pub record IsSoundScript (bytes : List ℕ) : Type 0 where
  pub script : Statements
  pub short : length bytes ≤ file_limit
  pub reads : ReadsAsScript bytes script
  pub never : NeverStops script

-- the files are told, and the one of that name is a script that never stops
abbrev pub HoldsSoundScript : Option Files → List ℕ → Type 0
HoldsSoundScript None name = ⊥
HoldsSoundScript (Some files) name = (bytes : List ℕ) × (bytes_at files name ≡ Some bytes) × IsSoundScript bytes

-- the command runs a script that never stops
abbrev pub RunsSoundScript : Option Files → Command → Type 0
RunsSoundScript holds (Run file) = HoldsSoundScript holds file
RunsSoundScript holds (Check file) = ⊥
RunsSoundScript holds (Gen n) = ⊥
