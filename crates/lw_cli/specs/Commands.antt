-- The meaning of the commands: which output and which status they allow over the bytes that they read.
use Rattle.std.specs.Prelude.{◌≡◌, ℕ, List}
use Rattle.lw_cli.specs.declared.asked.Command.{Command}
use Rattle.lw_cli.specs.declared.asked.Command.TheVariants.{Run, Check, Gen}
use Rattle.lw_cli.specs.declared.finding.Finding.{Finding}
use Rattle.lw_cli.specs.FindingLines.{finding_line, finding_status}
use Rattle.lw_cli.specs.Checked.{IsFinding}
use Rattle.lw_cli.specs.RunOutcomes.{RunOutcome, RunBegins}
use Rattle.lw_cli.specs.GenOutcomes.{GenOutcome}

-- `check` allows this output and this status over a file of these bytes: the line of the finding and what goes with it
pub record CheckOutcome (bytes out : List ℕ) (status : ℕ) : Type 0 where
  pub finding : Finding
  pub is_finding : IsFinding bytes finding
  pub line : out ≡ finding_line finding
  pub ending : status ≡ finding_status finding

-- the command allows this output and this status over these bytes that it reads
abbrev pub Outcome : Command → List ℕ → List ℕ → ℕ → Type 0
Outcome (Run file) bytes out status = RunOutcome bytes out status
Outcome (Check file) bytes out status = CheckOutcome bytes out status
Outcome (Gen n) bytes out status = GenOutcome n out status

-- over these bytes the command has written this where it was cut: only `run` writes before it is at its end
abbrev pub IsBegun : Command → List ℕ → List ℕ → Type 0
IsBegun (Run file) bytes out = RunBegins bytes out
IsBegun (Check file) bytes out = ⊥
IsBegun (Gen n) bytes out = ⊥
