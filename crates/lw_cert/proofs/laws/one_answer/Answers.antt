use Rattle.lw_cert.proofs.OneCertificate.{one-answer}
use Rattle.lw_cert.proofs.laws.one_answer.Goals as goal

pub returns : goal.returns
returns c = one-answer
