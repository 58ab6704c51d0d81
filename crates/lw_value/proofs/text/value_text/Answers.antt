use Rattle.lw_value.specs.Views.{value_of}
use Rattle.lw_value.proofs.CertificatesPrintable.{printable}
use Rattle.lw_value.proofs.text.value_text.Goals as goal

pub write_value-requires : goal.write_value-requires
write_value-requires c = (c.requires.live, printable c.args.pool.now (value_of c.args.value.now) c.requires.worlds c.requires.measured)
