use Rattle.std.proofs.Common.{◌∙◌}
use Rattle.lw_cert.proofs.WordReaders.{same-bytes}
use Rattle.lw_cert.proofs.LastLines.{leads-listed}
use Rattle.lw_cert.proofs.next.listed.Goals as goal

pub returns-then-eq : goal.returns-then-eq
returns-then-eq c = λ ts next high. leads-listed ts c.args.line.now c.args.head c.args.model c.args.refuted next high (same-bytes _ _ c.if-eq.ensures ∙ c.as_slice.ensures)
