-- What the steps of `check` between a file's bytes and the finding say.
use Rattle.std.specs.Prelude.{ℕ, List}
use Rattle.lw_cert.specs.declared.fault.CertFault.TheVariants as fault
use Rattle.lw_cert.specs.CertificateFaults.{IsFaultOf}
use Rattle.lw_formula.specs.declared.logic.Logic.{Logic}
use Rattle.lw_formula.specs.Formula.{Formula}
use Rattle.lw_formula.specs.FiniteModel.{FiniteModel, IsWellFormed}
use Rattle.lw_formula.specs.Validity.{Refutes}
use Rattle.lw_cli.specs.declared.finding.Finding.{Finding}
use Rattle.lw_cli.specs.declared.finding.Finding.TheVariants.{ModelText, ProofText, Accepted, RejectedModel}

-- the model is well formed, and the finding says whether it refutes the formula at the world
abbrev pub IsRefutation : Logic → Formula → FiniteModel → ℕ → Finding → Type 0
IsRefutation logic a m w Accepted = IsWellFormed m × Refutes logic m w a
IsRefutation logic a m w RejectedModel = IsWellFormed m × (¬ Refutes logic m w a)
IsRefutation logic a m w _ = ⊥

-- the finding names the text's fault
abbrev pub IsTextFault : List ℕ → Finding → Type 0
IsTextFault text (ModelText line) = IsFaultOf text (fault.ModelText line)
IsTextFault text (ProofText line) = IsFaultOf text (fault.ProofText line)
IsTextFault text _ = ⊥
