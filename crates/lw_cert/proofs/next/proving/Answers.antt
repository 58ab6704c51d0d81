use Rattle.lw_cert.proofs.next.proving.Goals as goal

pub returns-in-Some-clause-next : goal.returns-in-Some-clause-next
returns-in-Some-clause-next c = c.stepped.ensures.next c.args.depths c.in-Some.ensures.items
