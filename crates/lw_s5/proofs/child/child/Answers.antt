use Rattle.std.proofs.Common.{◌≡◌, ◌≤◌, true, refl, sym, ap, subst, ◌∙◌, arith}
use Rattle.lw_proof.specs.Lean.{steps}
use Rattle.lw_sat.specs.Closing.{Closes}
use Rattle.lw_sat.specs.Course.{label, steps_held, FoundFits, FoundSteps}
use Rattle.lw_sat.specs.Saturated.{every}
use Rattle.lw_sat.specs.Sets.{among}
use Rattle.lw_sat.proofs.SaturationCourse.{every_survives}
use Rattle.lw_s5.specs.Private.RootedSearch.{IsChild}
use Rattle.lw_s5.proofs.ChildSeeds.{seed_begins, seed_keeps, step_closes}
use Rattle.lw_s5.proofs.DecidedLabels.{has_label, unclosed_from}
use Rattle.lw_s5.proofs.child.child.Goals as goal

pub next-requires-clause-under : goal.next-requires-clause-under
next-requires-clause-under c = (among c.deref.result.now, c.in_ok-saturation.ensures.under every refl)

pub returns-in-Closed-clause-obstacle : goal.returns-in-Closed-clause-obstacle
returns-in-Closed-clause-obstacle c =
    let t = c.args.closure.now in
    let R = label c.args.root.now in
    let X = among c.deref.result.now in
    let found = c.in_ok-proof.ensures.found X every (every_survives t) (c.in_ok-saturation.ensures.under every refl) in
    let closes = subst (FoundFits t X every c.next.new.self) c.in-Closed.is found in
    let few = subst (FoundSteps (steps_held c.in_ok-saturation.saturation) c.next.new.self) c.in-Closed.is c.in_ok-proof.ensures.steps in
    let e = ap among c.deref.ensures.value ∙ c.in_ok-seed.ensures.set in
    subst (λ p. Closes t R p × (steps p ≤ 1)) (sym c.in_ok-stepped-in-Closed.ensures) (
      step_closes t R c.args.item c.args.component c.in-Closed.proof c.requires.item c.requires.there c.requires.parts (subst (λ Y. Closes t Y c.in-Closed.proof) e closes),
      omega (arith, few, c.in_ok-saturation.ensures.steps),
    )

pub undecided-requires-clause-child : goal.undecided-requires-clause-child
undecided-requires-clause-child c =
    let t = c.args.closure.now in
    let X = among c.deref.result.now in
    has_label t X c.next.new.self
    (unclosed_from t X c.in_ok-saturation.saturation c.next.new.self c.in_ok-proof.field-0 (c.in_ok-saturation.ensures.under every refl) c.in_ok-proof.ensures.found c.in-Unclosed.is)

pub items-requires : goal.items-requires
items-requires c =
    let t = c.args.closure.now in
    let X = among c.deref.result.now in
    has_label t X c.next.new.self
    (unclosed_from t X c.in_ok-saturation.saturation c.next.new.self c.in_ok-proof.field-0 (c.in_ok-saturation.ensures.under every refl) c.in_ok-proof.ensures.found c.in-Unclosed.is)

pub returns-clause-child : goal.returns-clause-child
returns-clause-child c =
    let t = c.args.closure.now in
    let R = label c.args.root.now in
    let X = among c.deref.result.now in
    let from =
    unclosed_from t X c.in_ok-saturation.saturation c.next.new.self c.in_ok-proof.field-0 (c.in_ok-saturation.ensures.under every refl) c.in_ok-proof.ensures.found c.in-Unclosed.is in
    let began = ap among c.deref.ensures.value ∙ c.in_ok-seed.ensures.set in
    subst (IsChild t R) (sym c.in_ok-items-in-None.ensures.set) (record {
      unclosed = from.unclosed;
      keeps = λ i e. from.seed i (subst (λ Y. Y i ≡ true) (sym began) (seed_keeps t R c.args.item c.args.component i e));
      decided = c.in-None.ensures.none;
    })

pub returns-clause-serves : goal.returns-clause-serves
returns-clause-serves c =
    let t = c.args.closure.now in
    let X = among c.deref.result.now in
    let i = c.args.component in
    let from =
    unclosed_from t X c.in_ok-saturation.saturation c.next.new.self c.in_ok-proof.field-0 (c.in_ok-saturation.ensures.under every refl) c.in_ok-proof.ensures.found c.in-Unclosed.is in
    let began = ap among c.deref.ensures.value ∙ c.in_ok-seed.ensures.set in
    subst (λ Y. Y i ≡ true) (sym c.in_ok-items-in-None.ensures.set)
    (from.seed i (subst (λ Y. Y i ≡ true) (sym began) (seed_begins t (label c.args.root.now) c.args.item i c.requires.logic)))
