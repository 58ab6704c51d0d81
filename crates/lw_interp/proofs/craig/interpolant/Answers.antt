use Rattle.std.proofs.Common.{◌≤◌, ◌∙◌, ap, sym, subst}
use Rattle.std.specs.Bool.{IsTrue}
use Rattle.lw_formula.specs.Formula.{Formula, impl, nodes}
use Rattle.lw_formula.specs.declared.sign.Sign.TheVariants.{F}
use Rattle.lw_pool.specs.Region.{tree_at}
use Rattle.lw_proof.specs.Derivation.{only, goal_cuts}
use Rattle.lw_proof.specs.Pooled.{proof_at}
use Rattle.lw_interp.specs.Interpolant.{Interpolant, has_interpolants}
use Rattle.lw_interp.specs.Laws.{node_bound}
use Rattle.lw_interp.specs.Maehara.{read_off}
use Rattle.lw_interp.proofs.PutSides.{start_at}
use Rattle.lw_interp.proofs.ReadInterpolants.{read_is_interpolant, read_is_small}
use Rattle.lw_interp.proofs.ShapedProofs.{closed_is_shaped}
use Rattle.lw_interp.proofs.craig.interpolant.Goals as goal

pub read_off-requires-clause-proof : goal.read_off-requires-clause-proof
read_off-requires-clause-proof c =
    let known : IsTrue (has_interpolants c.args.logic) = sym c.has_interpolants.ensures ∙ c.if-not-has_interpolants.false in
    let goal_formula : Formula = impl (tree_at c.args.pool.now c.args.left) (tree_at c.args.pool.now c.args.right) in
    (c.requires.proof, closed_is_shaped c.args.logic known (goal_cuts goal_formula) (only (F, goal_formula)) (proof_at c.args.pool.now c.args.proof.now) c.requires.proved)

pub returns-clause-at : goal.returns-clause-at
returns-clause-at c = (
  c.in_ok-read_off.ensures.at.0,
  c.in_ok-read_off.ensures.at.1
      ∙ ap (λ W. read_off c.args.logic W (proof_at c.args.pool.now c.args.proof.now))
      (start_at c.args.pool.now c.args.left c.args.right c.in_ok-sides.sides c.in_ok-sides.ensures.left c.in_ok-sides.ensures.right),
)

pub returns-clause-interpolant : goal.returns-clause-interpolant
returns-clause-interpolant c =
    let a : Formula = tree_at c.args.pool.now c.args.left in
    let b : Formula = tree_at c.args.pool.now c.args.right in
    subst (λ (i : Formula). Interpolant c.args.logic a i b) (sym (returns-clause-at c).1)
    (read_is_interpolant c.args.logic (sym c.has_interpolants.ensures ∙ c.if-not-has_interpolants.false) (proof_at c.args.pool.now c.args.proof.now) a b c.requires.proved)

pub returns-clause-small : goal.returns-clause-small
returns-clause-small c =
    let a : Formula = tree_at c.args.pool.now c.args.left in
    let b : Formula = tree_at c.args.pool.now c.args.right in
    subst (λ (i : Formula). nodes i ≤ node_bound (proof_at c.args.pool.now c.args.proof.now) a b) (sym (returns-clause-at c).1)
    (read_is_small c.args.logic (sym c.has_interpolants.ensures ∙ c.if-not-has_interpolants.false) (proof_at c.args.pool.now c.args.proof.now) a b c.requires.proved)
