-- What `check` writes for each finding, and the status that goes with it.
use Rattle.std.specs.Prelude.{ℕ, List, [], ◌∷◌, ◌++◌, codes}
use Rattle.std.specs.Fmt.{decimal}
use Rattle.lw_cli.specs.declared.finding.Finding.{Finding}
use Rattle.lw_cli.specs.declared.finding.Finding.TheVariants.{FileLimit, ModelText, ProofText, Accepted, RejectedStep, RejectedModel}
use Rattle.lw_cli.specs.FaultLines.{file_limit_line}

-- the finding's line, with its line feed
abbrev pub finding_line : Finding → List ℕ
finding_line FileLimit = file_limit_line
finding_line (ModelText line) = codes "fault: line " ++ (decimal line ++ (codes ": model text" ++ 10 ∷ []))
finding_line (ProofText line) = codes "fault: line " ++ (decimal line ++ (codes ": proof text" ++ 10 ∷ []))
finding_line Accepted = codes "accepted" ++ 10 ∷ []
finding_line (RejectedStep step) = codes "rejected: step " ++ (decimal step ++ 10 ∷ [])
finding_line RejectedModel = codes "rejected: model" ++ 10 ∷ []

-- 0 where the certificate is accepted
abbrev pub finding_status : Finding → ℕ
finding_status Accepted = 0
finding_status _ = 1
