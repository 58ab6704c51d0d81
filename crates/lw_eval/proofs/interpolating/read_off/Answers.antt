use Rattle.lw_pool.specs.Region.{tree_at}
use Rattle.lw_formula.specs.Formula.{impl}
use Rattle.lw_proof.specs.Pooled.{proof_at}
use Rattle.lw_eval.specs.Calls.{Interpolates}
use Rattle.lw_eval.proofs.CallsAnswered.{no_interpolant, lean_answer}
use Rattle.lw_eval.proofs.interpolating.read_off.Goals as goal

pub returns-in_default-clause-value : goal.returns-in_default-clause-value
returns-in_default-clause-value c = no_interpolant c.args.logic _ _ c.args.answer.now _ _ c.in_default.is c.requires.validity

pub returns-in-Ok-clause-value : goal.returns-in-Ok-clause-value
returns-in-Ok-clause-value c =
    Interpolates.between (tree_at c.interpolant.new.pool c.in-Ok.between) (proof_at c.args.pool.now c.in-Yes.proof) c.in-Ok.ensures.interpolant
    (lean_answer c.args.logic c.args.pool.now (impl (tree_at c.args.pool.now c.args.left) (tree_at c.args.pool.now c.args.right)) c.args.answer.now c.in-Yes.proof c.in-Yes.is c.requires.answer)
    c.in-Ok.ensures.small
