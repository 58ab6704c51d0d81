use Rattle.std.proofs.Common.{sym, subst}
use Rattle.lw_cert.specs.Private.StageViews.{IsNext}
use Rattle.lw_cert.proofs.next.advanced.Goals as goal

pub returns-in-Start-clause-next : goal.returns-in-Start-clause-next
returns-in-Start-clause-next c =
    subst (λ s. IsNext c.args.line.now c.args.pool.now s c.args.pool.now c.headed.result) (sym c.in-Start.is) (c.headed.ensures c.args.pool.now)

pub returns-in-Headed-clause-next : goal.returns-in-Headed-clause-next
returns-in-Headed-clause-next c =
    subst (λ s. IsNext c.args.line.now c.args.pool.now s c.args.pool.now c.chosen.result) (sym c.in-Headed.is) (c.chosen.ensures c.args.pool.now)
