use Rattle.std.proofs.Common.{IfOk, subst}
use Rattle.lw_cert.specs.Certificates.{IsContentOf}
use Rattle.lw_cli.specs.Checked.{IsJudged}
use Rattle.lw_cli.proofs.FileFindings.{judged_proof, judged_model, live_proof, world_within}
use Rattle.lw_cli.proofs.check_file.judged.Goals as goal

pub proof_finding-requires-clause-goal : goal.proof_finding-requires-clause-goal
proof_finding-requires-clause-goal c = c.requires.1.formula.0

pub proof_finding-requires-clause-proof : goal.proof_finding-requires-clause-proof
proof_finding-requires-clause-proof c =
    live_proof c.args.pool.now c.in-Proved.proof c.requires.0.content (subst (λ b. IsContentOf c.args.pool.now b c.requires.0.content) c.in-Proved.is c.requires.1.content)

pub returns-in-Proved : goal.returns-in-Proved
returns-in-Proved c = λ sheet is.
    subst (λ logic. IfOk c.proof_finding.result (IsJudged logic sheet.formula sheet.content)) is.logic
    (judged_proof c.args.certificate.now.logic c.args.pool.now c.args.certificate.now.formula c.in-Proved.proof sheet.formula sheet.content c.proof_finding.result is.formula.1
    (subst (λ b. IsContentOf c.args.pool.now b sheet.content) c.in-Proved.is is.content) c.proof_finding.ensures)

pub model_finding-requires-clause-goal : goal.model_finding-requires-clause-goal
model_finding-requires-clause-goal c = c.requires.1.formula.0

pub model_finding-requires-clause-world : goal.model_finding-requires-clause-world
model_finding-requires-clause-world c =
    world_within c.args.pool.now c.in-Refuted.model c.in-Refuted.world c.requires.0.content (subst (λ b. IsContentOf c.args.pool.now b c.requires.0.content) c.in-Refuted.is c.requires.1.content)

pub returns-in-Refuted : goal.returns-in-Refuted
returns-in-Refuted c = λ sheet is.
    subst (λ logic. IfOk c.model_finding.result (IsJudged logic sheet.formula sheet.content)) is.logic
    (judged_model c.args.certificate.now.logic c.args.pool.now c.args.certificate.now.formula c.in-Refuted.model c.in-Refuted.world sheet.formula sheet.content c.model_finding.result is.formula.1
    (subst (λ b. IsContentOf c.args.pool.now b sheet.content) c.in-Refuted.is is.content) c.model_finding.ensures)
