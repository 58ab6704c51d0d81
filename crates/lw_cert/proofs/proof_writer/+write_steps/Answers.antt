use Rattle.std.proofs.Common.{suc, ◌∷◌, subst}
use Rattle.lw_pool.specs.Region.{signed_at}
use Rattle.lw_proof.specs.Pooled.{proof_at}
use Rattle.lw_proof.specs.Tree.{principal_of}
use Rattle.lw_cert.specs.Lines.{step_is}
use Rattle.lw_cert.specs.Sheet.{steps}
use Rattle.lw_cert.specs.Private.LineWriting.{Writes}
use Rattle.lw_cert.proofs.StepLines.{steps-first, steps-next}
use Rattle.lw_cert.proofs.proof_writer.+write_steps.Goals as goal

pub loop-i-init : goal.loop-i-init
loop-i-init t c = λ d.
    steps-first c.args.pool.now c.args.proof.now d c.args.out.now.items c.write_step.new.out.items
    (subst (λ r. Writes c.args.out.now.items c.write_step.new.out.items (λ rest. step_is d r (signed_at c.args.pool.now (principal_of c.args.proof.now)) ∷ rest)) c.rule.ensures
    (subst (λ s. Writes c.args.out.now.items c.write_step.new.out.items (λ rest. step_is d c.rule.result (signed_at c.args.pool.now s) ∷ rest)) c.principal.ensures (c.in_ok-write_step.ensures d)))

pub loop-i-preserved : goal.loop-i-preserved
loop-i-preserved t c = λ d.
    steps-next c.args.pool.now c.args.proof.now c.sub.result.now c.loop-i.i d c.args.out.now.items c.loop-i.out.items c.write_steps.new.out.items (steps d (proof_at c.args.pool.now c.args.proof.now))
    c.sub.ensures.sub (c.loop-i.invariant d) (c.in_ok-write_steps.ensures (suc d))
