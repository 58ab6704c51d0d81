-- What a verdict says of a table.
use Rattle.std.specs.Prelude.{◌≡◌, ◌⊎◌, ℕ, ◌<◌, List, length, ⊤}
use Rattle.lw_formula.specs.declared.logic.Logic.{Logic}
use Rattle.lw_formula.specs.declared.sign.Sign.TheVariants.{F}
use Rattle.lw_formula.specs.Formula.{Formula}
use Rattle.lw_formula.specs.Signed.{Signed}
use Rattle.lw_proof.specs.Derivation.{only}
use Rattle.lw_share.specs.Lines.{Line, IsLineAt}
use Rattle.lw_share.specs.SharedProofs.{Holds, IsLineWithin, SharedProves}
use Rattle.lw_share.specs.declared.verdict.SharedVerdict.{SharedVerdict}
use Rattle.lw_share.specs.declared.verdict.SharedVerdict.TheVariants.{Accepted, Rejected}

-- all lines before this number hold
abbrev pub HoldBefore : Logic → Formula → List (Line Signed) → ℕ → Type 0
HoldBefore L goal table n = (i : ℕ) (line : Line Signed) → i < n → IsLineAt table i line → Holds L goal table line

-- the line with this number doesn't hold; or the number is the count, and the root's set isn't within that of `F goal` alone
abbrev pub IsFault : Logic → List (Line Signed) → ℕ → Formula → ℕ → Type 0
IsFault L table root goal n =
    ((line : Line Signed) × IsLineAt table n line × (¬ Holds L goal table line)) ⊎
    ((n ≡ length table) × (¬ IsLineWithin table root (only (F, goal))))

-- accepted is a proof of the goal; else the number is that of the first fault
abbrev pub IsSharedVerdict : Logic → List (Line Signed) → ℕ → Formula → SharedVerdict → Type 0
IsSharedVerdict L table root goal Accepted = SharedProves L table root goal
IsSharedVerdict L table root goal (Rejected n) = HoldBefore L goal table n × IsFault L table root goal n

-- the table was accepted
abbrev pub IsAccepted : SharedVerdict → Type 0
IsAccepted Accepted = ⊤
IsAccepted (Rejected n) = ⊥
