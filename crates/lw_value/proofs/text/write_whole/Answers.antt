use Rattle.std.proofs.Common.{◌≡◌, ap, sym, ◌∙◌, subst}
use Rattle.lw_value.specs.Certified.{certified}
use Rattle.lw_value.specs.Views.{value_of}
use Rattle.lw_value.specs.Private.TextsLeft.{CanPrint, parts_of}
use Rattle.lw_value.proofs.CertificateWritten.{certificate-live}
use Rattle.lw_value.proofs.PartsWritten.{certificate-writes, on-ok}
use Rattle.lw_value.proofs.text.write_whole.Goals as goal

pub write_certificate-requires-clause-live : goal.write_certificate-requires-clause-live
write_certificate-requires-clause-live c =
    let one = c.deref-in-Certificate.result.now in
    let is : value_of c.args.value.now ≡ certified one = ap value_of c.in-Certificate.is ∙ ap certified (sym c.deref-in-Certificate.ensures) in
    let can : CanPrint c.args.pool.now (certified one) = subst (CanPrint c.args.pool.now) is c.requires in
    certificate-live c.args.pool.now one can.0 can.1.0

pub returns-in-Certificate : goal.returns-in-Certificate
returns-in-Certificate c =
    let one = c.deref-in-Certificate.result.now in
    let is : value_of c.args.value.now ≡ certified one = ap value_of c.in-Certificate.is ∙ ap certified (sym c.deref-in-Certificate.ensures) in
    on-ok c.write_certificate.result (certificate-writes c.args.pool.now one (value_of c.args.value.now) c.args.out.now.items c.write_certificate.new.out.items (parts_of c.args.left.now.items) is) c.write_certificate.ensures
