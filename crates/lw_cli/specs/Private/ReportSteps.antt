-- What a command's report says of what was written and what is yet to be.
use Rattle.std.specs.Prelude.{◌≡◌, ◌⊎◌, ℕ, List, ◌++◌, Option}
use Rattle.lw_io.specs.Output.{Adds, AddsPart}
use Rattle.lw_ast.specs.Trees.{Statements}
use Rattle.lw_eval.specs.declared.trouble.Trouble.{Trouble}
use Rattle.lw_eval.specs.Runs.{Done, Stopped}
use Rattle.lw_eval.specs.Outputs.{Allows}
use Rattle.lw_cli.specs.declared.report.Report.{Report}
use Rattle.lw_cli.specs.FaultLines.{trouble_line}

-- what was written between the two moments, and the report's line behind it, is the whole of an output that is allowed with
-- the report's status
pub record Reports (outcome : List ℕ → ℕ → Type 0) (before now : Option (List ℕ)) (report : Report) : Type 0 where
  pub out : List ℕ
  pub written : Adds before now out
  pub allowed : outcome (out ++ report.line.items) report.status

-- what was written is the whole of an output that is allowed with this status
pub record Wrote (outcome : List ℕ → ℕ → Type 0) (before now : Option (List ℕ)) (status : ℕ) : Type 0 where
  pub out : List ℕ
  pub written : Adds before now out
  pub allowed : outcome out status

-- what was written is a first part of an output that is allowed
pub record WrotePart (outcome : List ℕ → ℕ → Type 0) (before now : Option (List ℕ)) : Type 0 where
  pub out : List ℕ
  pub status : ℕ
  pub written : AddsPart before now out
  pub allowed : outcome out status

-- what was written is all that was written where the command was cut
pub record WroteBegun (begun : List ℕ → Type 0) (before now : Option (List ℕ)) : Type 0 where
  pub out : List ℕ
  pub written : Adds before now out
  pub is_begun : begun out

-- what was written is the one or the other
abbrev pub IsShort : (List ℕ → ℕ → Type 0) → (List ℕ → Type 0) → Option (List ℕ) → Option (List ℕ) → Type 0
IsShort outcome begun before now = WrotePart outcome before now ⊎ WroteBegun begun before now

-- the script may write this: carried out, or ended in a trouble, whose line comes last
pub data ScriptOutcome (s : Statements) : List ℕ → ℕ → Type 0 where
  carried : (out : List ℕ) → Allows s out Done → ScriptOutcome s out 0
  troubled : (out : List ℕ) (line : ℕ) (t : Trouble) → Allows s out (Stopped line t) → ScriptOutcome s (out ++ trouble_line line t) 1

-- the report is this line and the status of a fault
pub record IsFaultReport (line : List ℕ) (report : Report) : Type 0 where
  pub says : report.line.items ≡ line
  pub ending : report.status ≡ 1
