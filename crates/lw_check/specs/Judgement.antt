-- What a verdict says of a proof.
use Rattle.std.specs.Prelude.{◌≡◌, ℕ, min, Option, Some, None, ⊤}
use Rattle.std.below.core.specs.declared.int.usize.TheConstants as usize
use Rattle.lw_formula.specs.declared.logic.Logic.{Logic}
use Rattle.lw_formula.specs.Formula.{Formula}
use Rattle.lw_formula.specs.Signed.{Signed}
use Rattle.lw_proof.specs.declared.why.Why.{Why}
use Rattle.lw_proof.specs.Tree.{Tree}
use Rattle.lw_proof.specs.Break.{first_break}
use Rattle.lw_check.specs.declared.verdict.Verdict.{Verdict}
use Rattle.lw_check.specs.declared.verdict.Verdict.TheVariants.{Accepted, Rejected}

-- the verdict that tells the first break: its step, or the greatest `usize` where the step's number is over it, and its reason
abbrev pub verdict_of : Option (ℕ × Why) → Verdict
verdict_of None = Accepted
verdict_of (Some b) = Rejected (min b.0 usize.MAX) b.1

-- the verdict tells the first step that breaks its rule where the proof is to prove the goal
abbrev pub IsVerdict : Logic → Formula → Tree Signed → Verdict → Type 0
IsVerdict L goal P verdict = verdict ≡ verdict_of (first_break L goal P)

-- the proof was accepted
abbrev pub IsAccepted : Verdict → Type 0
IsAccepted Accepted = ⊤
IsAccepted (Rejected step why) = ⊥
