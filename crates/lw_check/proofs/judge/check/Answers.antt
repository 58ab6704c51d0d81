use Rattle.std.proofs.Common.{◌≡◌, ◌+◌, ◌∷◌, [], sym, subst}
use Rattle.lw_formula.specs.declared.sign.Sign.TheVariants.{F}
use Rattle.lw_pool.specs.declared.id.SignedId.{SignedId}
use Rattle.lw_pool.specs.Region.{tree_at, AreMarks}
use Rattle.lw_proof.specs.Tree.{lines}
use Rattle.lw_proof.specs.Break.{first_break}
use Rattle.lw_proof.specs.Pooled.{proof_at}
use Rattle.lw_proof.specs.SignedIds.{Adds}
use Rattle.lw_sets.proofs.SetMembers.{added_first}
use Rattle.lw_check.proofs.Verdicts.{whole_outcome, accepted_exactly, accepted_is_valid}
use Rattle.lw_check.proofs.judge.check.Goals as goal

pub returns-clause-verdict : goal.returns-clause-verdict
returns-clause-verdict c =
    let first : SignedId = record { sign = F; form = c.args.goal } in
    let items : c.add.new.self ≡ first ∷ [] = added_first c.add.new.self first (subst (λ xs. Adds xs c.add.new.self first) c.new-items.ensures c.in_ok-add.ensures.added) in
    c.verdict.ensures (first_break c.args.logic (tree_at c.args.pool.now c.args.goal) (proof_at c.args.pool.now c.args.proof.now)) (1 + lines c.args.proof.now)
    (whole_outcome c.args.pool.now c.walk.new.pool c.walk.ensures.grows c.args.goal c.args.logic c.deref.result.now c.add.new.self c.args.proof.now c.in_ok-walked.walked
    c.requires.goal c.requires.proof
    (subst (AreMarks c.args.pool.now c.args.goal) (sym c.deref.ensures.value) c.in_ok-cuts.ensures)
    items c.in_ok-walked.ensures.told)

pub returns-clause-accepted : goal.returns-clause-accepted
returns-clause-accepted c =
    accepted_exactly c.args.logic (tree_at c.args.pool.now c.args.goal) (proof_at c.args.pool.now c.args.proof.now) c.verdict.result (returns-clause-verdict c)

pub returns-clause-valid : goal.returns-clause-valid
returns-clause-valid c =
    accepted_is_valid c.args.logic (tree_at c.args.pool.now c.args.goal) (proof_at c.args.pool.now c.args.proof.now) c.verdict.result (returns-clause-verdict c)
