use Rattle.std.proofs.Common.{sym, ◌∙◌}
use Rattle.lw_pool.specs.Region.{tree_at}
use Rattle.lw_proof.specs.Pooled.{proof_at}
use Rattle.lw_cli.proofs.FileFindings.{rejected}
use Rattle.lw_cli.proofs.check_file.proof_finding.Goals as goal

pub returns-in-Rejected : goal.returns-in-Rejected
returns-in-Rejected c =
    rejected c.args.logic (tree_at c.args.pool.now c.args.goal) (proof_at c.args.pool.now c.args.proof.now) c.in-Rejected.step c.in-Rejected.why (sym c.in-Rejected.is ∙ c.in_ok-check.ensures.verdict)
