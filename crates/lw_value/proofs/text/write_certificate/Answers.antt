use Rattle.std.proofs.Common.{arith}
use Rattle.lw_value.specs.Values.{seen}
use Rattle.lw_value.specs.Certified.{certified}
use Rattle.lw_value.specs.ValueTexts.{IsTextOf}
use Rattle.lw_value.proofs.CertificateWritten.{certificate-text}
use Rattle.lw_value.proofs.PartsWritten.{appended}
use Rattle.lw_value.proofs.text.write_certificate.Goals as goal

pub returns-in-Ok : goal.returns-in-Ok
returns-in-Ok c =
    appended (IsTextOf (seen c.args.pool.now (certified c.args.certificate.now))) c.append.result c.args.out.now.items c.append.new.self.items c.pop.new.self.items c.append.ensures.items
    (certificate-text c.args.pool.now c.args.certificate.now c.in-Ok.text.items c.pop.new.self.items c.pop.result c.in-Ok.ensures.text c.pop.ensures.items (λ some. c.pop.ensures.variant.1 (omega (arith, some, c.in-Ok.text.ok))))
