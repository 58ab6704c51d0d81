use Rattle.std.proofs.Common.{arith}
use Rattle.lw_value.specs.Views.{values_of}
use Rattle.lw_value.proofs.CertificatesPrintable.{all-printable}
use Rattle.lw_value.proofs.text.line_text.Goals as goal

pub write_values-requires : goal.write_values-requires
write_values-requires c = (c.requires.live, all-printable c.args.pool.now (values_of c.args.values.now) c.requires.worlds (omega (arith, c.requires.measured)))
