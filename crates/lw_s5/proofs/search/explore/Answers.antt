use Rattle.std.proofs.Common.{[], ◌∷◌, refl, subst, arith}
use Rattle.lw_sat.specs.Course.{label, steps_held, FoundFits, FoundSteps}
use Rattle.lw_sat.specs.Saturated.{every}
use Rattle.lw_sat.specs.Sets.{among}
use Rattle.lw_sat.proofs.SaturationCourse.{every_survives}
use Rattle.lw_s5.specs.Private.RootedSearch.{IsObstacle}
use Rattle.lw_s5.proofs.RootFragments.{explored}
use Rattle.lw_s5.proofs.DecidedLabels.{has_label, unclosed_from}
use Rattle.lw_s5.proofs.search.explore.Goals as goal

pub loop-root-init : goal.loop-root-init
loop-root-init c = record {
  under = c.in_ok-root.ensures.under every refl;
  ready = c.in_ok-root.ensures.ready;
  steps = omega (arith, c.in_ok-root.ensures.steps);
}

pub returns-in-Closed : goal.returns-in-Closed
returns-in-Closed c =
    let t = c.args.closure.now in
    let X = among (c.args.item ∷ []) in
    let few = subst (FoundSteps (steps_held c.loop-root.root) c.next.new.self) c.in-Closed.is c.in_ok-proof.ensures.steps in (
      subst (FoundFits t X every c.next.new.self) c.in-Closed.is (c.in_ok-proof.ensures.found X every (every_survives t) c.loop-root.invariant.under),
      omega (arith, few, c.loop-root.invariant.steps),
    )

pub surround-requires-clause-label : goal.surround-requires-clause-label
surround-requires-clause-label c =
    let t = c.args.closure.now in
    let X = among (c.args.item ∷ []) in
    has_label t X c.next.new.self (unclosed_from t X c.loop-root.root c.next.new.self c.in_ok-proof.field-0 c.loop-root.invariant.under c.in_ok-proof.ensures.found c.in-Unclosed.is)

pub returns-in-Ok : goal.returns-in-Ok
returns-in-Ok c =
    let t = c.args.closure.now in
    let X = among (c.args.item ∷ []) in
    let from = unclosed_from t X c.loop-root.root c.next.new.self c.in_ok-proof.field-0 c.loop-root.invariant.under c.in_ok-proof.ensures.found c.in-Unclosed.is in
    explored t (label c.next.new.self) c.in-Ok.fragment c.requires.logic c.requires.alike (has_label t X c.next.new.self from).items from.unclosed c.in-Ok.ensures.fragment X from.seed

pub refuse-requires-clause-under : goal.refuse-requires-clause-under
refuse-requires-clause-under c =
    let t = c.args.closure.now in
    let X = among (c.args.item ∷ []) in
    (X, (unclosed_from t X c.loop-root.root c.next.new.self c.in_ok-proof.field-0 c.loop-root.invariant.under c.in_ok-proof.ensures.found c.in-Unclosed.is).under)

pub refuse-requires-clause-waits : goal.refuse-requires-clause-waits
refuse-requires-clause-waits c =
    let t = c.args.closure.now in
    let X = among (c.args.item ∷ []) in
    (unclosed_from t X c.loop-root.root c.next.new.self c.in_ok-proof.field-0 c.loop-root.invariant.under c.in_ok-proof.ensures.found c.in-Unclosed.is).waits

pub loop-root-preserved-in-Continue-branch-4 : goal.loop-root-preserved-in-Continue-branch-4
loop-root-preserved-in-Continue-branch-4 c =
    let t = c.args.closure.now in
    let X = among (c.args.item ∷ []) in
    let from = unclosed_from t X c.loop-root.root c.next.new.self c.in_ok-proof.field-0 c.loop-root.invariant.under c.in_ok-proof.ensures.found c.in-Unclosed.is in
    let few = subst (FoundSteps (steps_held c.loop-root.root) c.next.new.self) c.in-Unclosed.is c.in_ok-proof.ensures.steps in
    let closes = subst (IsObstacle t (label c.next.new.self)) c.in-Err-Closed.field-0-is c.in-Err-Closed.ensures.obstacle in
    record {
      under = c.in_ok-refuse-in-Err-Closed.ensures.under X every from.under;
      ready = c.in_ok-refuse-in-Err-Closed.ensures.ready;
      steps = omega (arith, c.in_ok-refuse-in-Err-Closed.ensures.steps, few, closes.1, c.loop-root.invariant.steps);
    }

pub split-requires-clause-under : goal.split-requires-clause-under
split-requires-clause-under c =
    let t = c.args.closure.now in
    let X = among (c.args.item ∷ []) in
    (X, (unclosed_from t X c.loop-root.root c.next.new.self c.in_ok-proof.field-0 c.loop-root.invariant.under c.in_ok-proof.ensures.found c.in-Unclosed.is).under)

pub split-requires-clause-waits : goal.split-requires-clause-waits
split-requires-clause-waits c =
    let t = c.args.closure.now in
    let X = among (c.args.item ∷ []) in
    (unclosed_from t X c.loop-root.root c.next.new.self c.in_ok-proof.field-0 c.loop-root.invariant.under c.in_ok-proof.ensures.found c.in-Unclosed.is).waits

pub loop-root-preserved : goal.loop-root-preserved
loop-root-preserved c =
    let t = c.args.closure.now in
    let X = among (c.args.item ∷ []) in
    let from = unclosed_from t X c.loop-root.root c.next.new.self c.in_ok-proof.field-0 c.loop-root.invariant.under c.in_ok-proof.ensures.found c.in-Unclosed.is in
    let few = subst (FoundSteps (steps_held c.loop-root.root) c.next.new.self) c.in-Unclosed.is c.in_ok-proof.ensures.steps in
    record {
      under = c.in_ok-split-in-Err-Undecided.ensures.under X every refl refl from.under;
      ready = c.in_ok-split-in-Err-Undecided.ensures.ready;
      steps = omega (arith, c.in_ok-split-in-Err-Undecided.ensures.steps, few, c.loop-root.invariant.steps);
    }
