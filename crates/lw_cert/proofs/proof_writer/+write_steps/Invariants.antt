use Rattle.std.proofs.Common.{ℕ}
use Rattle.lw_proof.specs.Pooled.{proof_at}
use Rattle.lw_proof.specs.Tree.{lines}
use Rattle.lw_cert.specs.Sheet.{steps}
use Rattle.lw_cert.specs.Private.LineWriting.{Leaves, left_steps}
use Rattle.lw_cert.proofs.proof_writer.+write_steps.Given as goal

abbrev pub invariant-loop-i : goal.invariant-loop-i
invariant-loop-i l = (d : ℕ) → Leaves l.fn.out.items l.out.items (steps d (proof_at l.pool l.proof)) (left_steps l.pool l.proof l.i d)

abbrev pub decreases-write_steps : goal.decreases-write_steps
decreases-write_steps l = lines l.proof.now
