use Rattle.lw_cert.proofs.WordReaders.{match-some}
use Rattle.lw_cert.proofs.StageLines.{leads-chosen}
use Rattle.lw_cert.proofs.next.named.Goals as goal

pub returns-in-Some-2-clause-next : goal.returns-in-Some-2-clause-next
returns-in-Some-2-clause-next c =
    leads-chosen c.args.pool.now c.exact.new.pool c.args.line.now c.in-Some.text.now c.args.logic c.in-Some-2.formula c.in-Some.ensures
    (match-some _ _ _ _ c.in_ok-formula.ensures.found c.in-Some-2.is)
