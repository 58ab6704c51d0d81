-- The meaning of `check`: which finding a file's bytes allow.
use Rattle.std.specs.Prelude.{◌≡◌, ℕ, ◌<◌, ◌≤◌, List, length, min, Some}
use Rattle.std.below.core.specs.declared.int.usize.TheConstants as usize
use Rattle.lw_formula.specs.declared.logic.Logic.{Logic}
use Rattle.lw_formula.specs.Formula.{Formula}
use Rattle.lw_formula.specs.FiniteModel.{FiniteModel, IsWellFormed}
use Rattle.lw_formula.specs.Validity.{Refutes}
use Rattle.lw_proof.specs.declared.why.Why.{Why}
use Rattle.lw_proof.specs.Derivation.{Proves}
use Rattle.lw_proof.specs.Break.{first_break}
use Rattle.lw_cert.specs.declared.fault.CertFault.TheVariants as fault
use Rattle.lw_cert.specs.Lines.{Row, pieces}
use Rattle.lw_cert.specs.Sheet.{Sheet, Content, Steps, Table}
use Rattle.lw_cert.specs.Certificates.{AreRowsOf}
use Rattle.lw_cert.specs.CertificateFaults.{Reads, IsFaultOf}
use Rattle.lw_cli.specs.declared.finding.Finding.{Finding}
use Rattle.lw_cli.specs.declared.finding.Finding.TheVariants.{FileLimit, ModelText, ProofText, Accepted, RejectedStep, RejectedModel}
use Rattle.lw_cli.specs.FileLimit.{file_limit}

-- the model of the rows
pub record IsModelOf (rows : List Row) (m : FiniteModel) : Type 0 where
  pub worlds : m.worlds ≡ length rows
  pub told : AreRowsOf m rows
  pub well_formed : IsWellFormed m

-- what is to be said of what a certificate shows of the formula in the logic: a proof is accepted where it proves it, and
-- else rejected at the first step that breaks its rule; a model is accepted where it refutes it at the world
abbrev pub IsJudged : Logic → Formula → Content → Finding → Type 0
IsJudged logic a (Steps t) Accepted = Proves logic t a
IsJudged logic a (Steps t) (RejectedStep step) = (n : ℕ) × (why : Why) × (first_break logic a t ≡ Some (n, why)) × (step ≡ min n usize.MAX)
IsJudged logic a (Table w rows) Accepted = (m : FiniteModel) × IsModelOf rows m × Refutes logic m w a
IsJudged logic a (Table w rows) RejectedModel = (m : FiniteModel) × IsModelOf rows m × (¬ Refutes logic m w a)
IsJudged logic a _ _ = ⊥

-- what is to be said of a file of these bytes: the first fault that there is, else what its certificate is judged as
pub data IsFinding (bytes : List ℕ) : Finding → Type 0 where
  too_long : file_limit < length bytes → IsFinding bytes FileLimit
  no_model : (line : ℕ) → length bytes ≤ file_limit → IsFaultOf bytes (fault.ModelText line) → IsFinding bytes (ModelText line)
  no_proof : (line : ℕ) → length bytes ≤ file_limit → IsFaultOf bytes (fault.ProofText line) → IsFinding bytes (ProofText line)
  judged : (c : Sheet) (finding : Finding) →
      length bytes ≤ file_limit → Reads (pieces bytes) c → IsJudged c.logic c.formula c.content finding → IsFinding bytes finding
