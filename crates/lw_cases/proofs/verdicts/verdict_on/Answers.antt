use Rattle.std.proofs.Common.{subst}
use Rattle.lw_cert.specs.Certificates.{IsContentOf}
use Rattle.lw_cases.proofs.Sheets.{live_proof}
use Rattle.lw_cases.proofs.verdicts.verdict_on.Goals as goal

pub check-requires-clause-goal : goal.check-requires-clause-goal
check-requires-clause-goal c = c.requires.1.formula.0

pub check-requires-clause-proof : goal.check-requires-clause-proof
check-requires-clause-proof c =
    live_proof c.args.pool.now c.in-Proved.proof c.requires.0.content (subst (λ b. IsContentOf c.args.pool.now b c.requires.0.content) c.in-Proved.is c.requires.1.content)
