use Rattle.std.proofs.Common.{◌≡◌, ◌≤◌, ℕ, subst, sym, take, get_or, arith}
use Rattle.lw_formula.specs.declared.logic.Logic.TheVariants.{K}
use Rattle.lw_formula.specs.Formula.{subformula_count}
use Rattle.lw_formula.specs.Validity.{Valid}
use Rattle.lw_pool.proofs.RegionGrowth.{Grows-trans, IsAt-grows}
use Rattle.lw_gen.specs.Families.{family_formula}
use Rattle.lw_gen.specs.Counts.{Sums, Scores, logics}
use Rattle.lw_gen.proofs.SmallFamilies.{few_subformulas}
use Rattle.lw_gen.proofs.SummedCounts.{Sums-take}
use Rattle.lw_gen.proofs.questions.count_in_logics.Goals as goal

pub loop-logic-init : goal.loop-logic-init
loop-logic-init c = (c.in_ok-goal.ensures.grows, c.in_ok-goal.ensures.at, Sums.none, omega arith)

pub score-requires-clause-few : goal.score-requires-clause-few
score-requires-clause-few c =
    let few = few_subformulas c.args.which c.args.i c.requires.most in
    subst (λ a. subformula_count a ≤ 128) (sym c.loop-logic.invariant.1.1) (omega (arith, few))

pub loop-logic-preserved : goal.loop-logic-preserved
loop-logic-preserved c = (
  Grows-trans c.args.pool.now c.loop-logic.pool c.score.new.pool c.loop-logic.invariant.0 c.in_ok-yes.ensures.grows,
  IsAt-grows c.loop-logic.pool c.score.new.pool (family_formula c.args.which c.args.i) c.in_ok-goal.goal c.in_ok-yes.ensures.grows c.loop-logic.invariant.1,
  Sums-take logics c.loop-logic.logic-index K c.loop-logic.yes c.in_ok-yes.field-0 (omega (arith, c.loop-logic-test.true)) c.loop-logic.invariant.2
      (subst (λ a. Scores (Valid (get_or logics c.loop-logic.logic-index K) a) c.in_ok-yes.field-0) c.loop-logic.invariant.1.1 c.in_ok-yes.ensures.score),
  omega (arith, c.loop-logic.invariant.3, c.in_ok-yes.ensures.few),
)

pub returns-clause-count : goal.returns-clause-count
returns-clause-count c =
    let all : c.loop-logic.logic-index ≡ 6 = omega (arith, c.loop-logic-test.false, c.loop-logic.auto.logic-index-end) in
    subst (λ (k : ℕ). Sums (λ logic. Scores (Valid logic (family_formula c.args.which c.args.i))) (take k logics) c.loop-logic.yes) all c.loop-logic.invariant.2
