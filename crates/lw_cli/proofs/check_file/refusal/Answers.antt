use Rattle.std.proofs.Common.{subst}
use Rattle.lw_cert.specs.CertificateFaults.{IsFaultOf}
use Rattle.lw_cli.proofs.check_file.refusal.Goals as goal

pub returns-in-ModelText : goal.returns-in-ModelText
returns-in-ModelText c = λ bytes told. subst (IsFaultOf bytes) c.in-ModelText.is told

pub returns-in-ProofText : goal.returns-in-ProofText
returns-in-ProofText c = λ bytes told. subst (IsFaultOf bytes) c.in-ProofText.is told
