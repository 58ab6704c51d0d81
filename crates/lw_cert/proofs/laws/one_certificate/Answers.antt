use Rattle.lw_cert.proofs.OneCertificate.{one-certificate}
use Rattle.lw_cert.proofs.laws.one_certificate.Goals as goal

pub returns : goal.returns
returns c = λ text. one-certificate c.one_tree.ensures text
