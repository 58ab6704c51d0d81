use Rattle.std.proofs.Common.{ℕ, ◌<◌, sym, subst, arith}
use Rattle.lw_pool.specs.Region.{tree_at, AreMarks}
use Rattle.lw_pool.proofs.RegionGrowth.{Grows-trans}
use Rattle.lw_share.specs.Pooled.{table_at}
use Rattle.lw_share.specs.SharedVerdicts.{IsSharedVerdict}
use Rattle.lw_share.specs.declared.verdict.SharedVerdict.TheVariants.{Accepted, Rejected}
use Rattle.lw_share.proofs.TableVerdicts.{next_held, is_first_fault, is_proof, is_root_fault, accepted_exactly, accepted_valid}
use Rattle.lw_share.proofs.check.check_shared.Goals as goal

pub loop-line-preserved : goal.loop-line-preserved
loop-line-preserved c =
    let n = c.loop-line.line in
    record {
      grows = Grows-trans c.args.pool.now c.loop-line.pool c.holds.new.pool c.loop-line.invariant.grows c.holds.ensures.grows;
      held =
          next_held c.args.logic c.args.pool.now c.args.goal c.args.table.now c.requires.table c.loop-line.pool c.loop-line.invariant.grows
          c.deref.result.now (subst (AreMarks c.args.pool.now c.args.goal) (sym c.deref.ensures.value) c.in_ok-cuts.ensures) n
          (subst (λ m. n < m) c.count-line-end.ensures.count c.loop-line-test.true)
          c.loop-line.invariant.held c.in_ok-holds.field-0 c.in_ok-holds.ensures.told c.if-not-branch.false;
    }

pub returns-then-not-branch-clause-verdict : goal.returns-then-not-branch-clause-verdict
returns-then-not-branch-clause-verdict c =
    let n = c.loop-line.line in
    is_first_fault c.args.logic c.args.pool.now c.args.goal c.args.table.now c.requires.table c.loop-line.pool c.loop-line.invariant.grows
    c.deref.result.now (subst (AreMarks c.args.pool.now c.args.goal) (sym c.deref.ensures.value) c.in_ok-cuts.ensures) n
    (subst (λ m. n < m) c.count-line-end.ensures.count c.loop-line-test.true)
    c.loop-line.invariant.held c.in_ok-holds.field-0 c.in_ok-holds.ensures.told c.args.root c.if-not-branch.true

pub returns-then-not-branch-clause-accepted : goal.returns-then-not-branch-clause-accepted
returns-then-not-branch-clause-accepted c =
    accepted_exactly c.args.logic (table_at c.args.pool.now c.args.table.now) c.args.root (tree_at c.args.pool.now c.args.goal) (Rejected c.loop-line.line)
    (returns-then-not-branch-clause-verdict c)

pub returns-then-is_within-clause-verdict : goal.returns-then-is_within-clause-verdict
returns-then-is_within-clause-verdict c =
    is_proof c.args.logic c.args.pool.now c.args.goal c.args.table.now c.requires.table c.loop-line.pool c.loop-line.invariant.grows c.requires.goal c.args.root c.requires.root
    (λ i k b at. c.loop-line.invariant.held i k (omega (arith, b, c.loop-line-test.false, c.count-line-end.ensures.count)) at)
    c.set.result.now c.in_ok-start.start c.set.ensures c.in_ok-start.ensures c.is_within.result c.is_within.ensures c.count-line-end.ensures.earlier c.if-is_within.true

pub returns-then-is_within-clause-accepted : goal.returns-then-is_within-clause-accepted
returns-then-is_within-clause-accepted c =
    accepted_exactly c.args.logic (table_at c.args.pool.now c.args.table.now) c.args.root (tree_at c.args.pool.now c.args.goal) Accepted
    (returns-then-is_within-clause-verdict c)

pub returns-then-is_within-clause-valid : goal.returns-then-is_within-clause-valid
returns-then-is_within-clause-valid c =
    accepted_valid c.args.logic (table_at c.args.pool.now c.args.table.now) c.args.root (tree_at c.args.pool.now c.args.goal) Accepted
    (returns-then-is_within-clause-verdict c)

pub returns-clause-verdict : goal.returns-clause-verdict
returns-clause-verdict c =
    subst (λ (n : ℕ). IsSharedVerdict c.args.logic (table_at c.args.pool.now c.args.table.now) c.args.root (tree_at c.args.pool.now c.args.goal) (Rejected n)) (sym c.count.ensures.count)
    (is_root_fault c.args.logic c.args.pool.now c.args.goal c.args.table.now c.requires.table c.loop-line.pool c.loop-line.invariant.grows c.requires.goal c.args.root c.requires.root
    (λ i k b at. c.loop-line.invariant.held i k (omega (arith, b, c.loop-line-test.false, c.count-line-end.ensures.count)) at)
    c.set.result.now c.in_ok-start.start c.set.ensures c.in_ok-start.ensures c.is_within.result c.is_within.ensures c.if-is_within.false)

pub returns-clause-accepted : goal.returns-clause-accepted
returns-clause-accepted c =
    accepted_exactly c.args.logic (table_at c.args.pool.now c.args.table.now) c.args.root (tree_at c.args.pool.now c.args.goal) (Rejected c.count.result)
    (returns-clause-verdict c)
