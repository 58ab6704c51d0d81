use Rattle.lw_cert.proofs.StageLines.{leads-headed}
use Rattle.lw_cert.proofs.next.chosen.Goals as goal

pub returns-in-Some : goal.returns-in-Some
returns-in-Some c = λ ts. leads-headed ts c.args.line.now c.in_ok-after.field-0.now c.in-Some.logic c.in_ok-after.ensures c.in-Some.ensures.exact
