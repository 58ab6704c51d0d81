use Rattle.std.proofs.Common.{subst}
use Rattle.lw_cert.specs.Certificates.{IsContentOf}
use Rattle.lw_cases.proofs.Sheets.{live_proof}
use Rattle.lw_cases.proofs.tables.of_certificate.Goals as goal

pub of_proof-requires-clause-goal : goal.of_proof-requires-clause-goal
of_proof-requires-clause-goal c = c.requires.1.formula.0

pub of_proof-requires-clause-proof : goal.of_proof-requires-clause-proof
of_proof-requires-clause-proof c =
    live_proof c.args.pool.now c.in-Proved.proof c.requires.0.content (subst (λ b. IsContentOf c.args.pool.now b c.requires.0.content) c.in-Proved.is c.requires.1.content)
