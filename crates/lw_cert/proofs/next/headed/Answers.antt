use Rattle.std.proofs.Common.{◌∙◌}
use Rattle.lw_cert.proofs.WordReaders.{same-bytes}
use Rattle.lw_cert.proofs.StageLines.{leads-start}
use Rattle.lw_cert.proofs.next.headed.Goals as goal

pub returns-then-eq : goal.returns-then-eq
returns-then-eq c = λ ts. leads-start ts c.args.line.now (same-bytes _ _ c.if-eq.ensures ∙ c.as_slice.ensures)
