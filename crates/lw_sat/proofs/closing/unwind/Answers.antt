use Rattle.std.proofs.Common.{◌≡◌, ℕ, ◌-◌, take, ◌++◌, ◌∷◌, [], Bool, sym, ap, subst, ◌∙◌, arith}
use Rattle.lw_proof.specs.System.{Set}
use Rattle.lw_sat.specs.SeedPath.{folded_steps, most_steps, FoldsTo}
use Rattle.lw_sat.specs.Saturated.{every, IsAt, IsClosing}
use Rattle.lw_sat.proofs.PathEnds.{most_steps-on}
use Rattle.lw_sat.proofs.UnwoundFrames.{all_closed, closes_above, folded_closed, folded_turned, room_closed, room_turned}
use Rattle.lw_sat.proofs.closing.unwind.Goals as goal

pub fold_frame-requires-clause-wide : goal.fold_frame-requires-clause-wide
fold_frame-requires-clause-wide c = (c.loop-frame.invariant.closing c.requires.0 every c.requires.1).wide

pub fold_frame-requires-clause-above : goal.fold_frame-requires-clause-above
fold_frame-requires-clause-above c =
    closes_above c.args.closure.now c.requires.0 every c.pop.new.self.items c.in-Some.frame c.loop-frame.board c.loop-frame.proof
    (subst (λ fs. IsClosing c.args.closure.now c.requires.0 every fs c.loop-frame.board c.loop-frame.proof) c.in-Some.ensures.items (c.loop-frame.invariant.closing c.requires.0 every c.requires.1))

pub loop-frame-preserved : goal.loop-frame-preserved
loop-frame-preserved c =
    let t = c.args.closure.now in
    let fs = c.pop.new.self.items in
    let b = c.loop-frame.board in
    let last : (X : Set ℕ) (test : Set ℕ → Bool) → IsClosing t X test c.args.frames.now.items c.args.board.now c.args.proof → IsClosing t X test (fs ++ c.in-Some.frame ∷ []) b c.loop-frame.proof =
    (λ X test h. subst (λ gs. IsClosing t X test gs b c.loop-frame.proof) c.in-Some.ensures.items (c.loop-frame.invariant.closing X test h)) in
    let held = ap most_steps c.in-Some.ensures.items ∙ most_steps-on fs c.in-Some.frame in
    let found = ap folded_steps c.in-Closed.is in
    record {
      closing = λ X test h. folded_closed t X test fs c.in-Some.frame b c.fold_frame.new.board c.loop-frame.proof (last X test h) c.in_ok-whole.ensures.bits c.in-Closed.whole
          (λ a d l k. subst (λ f. FoldsTo t test a d c.fold_frame.new.board f) c.in-Closed.is (c.in_ok-whole.ensures.folded test a d l k));
      room = (let less = room_closed t c.requires.0 every fs c.in-Some.frame b c.fold_frame.new.board c.loop-frame.proof (last c.requires.0 every c.requires.1) c.in_ok-whole.ensures.bits c.in-Closed.whole
          (λ a d l k. subst (λ f. FoldsTo t every a d c.fold_frame.new.board f) c.in-Closed.is (c.in_ok-whole.ensures.folded every a d l k)) in
          omega (arith, less, c.loop-frame.invariant.room));
      bits = c.in_ok-whole.ensures.bits ∙ c.loop-frame.invariant.bits;
      steps = omega (arith, held, found, c.in_ok-whole.ensures.steps, c.loop-frame.invariant.steps);
    }

pub returns-in-Turned-clause-folded : goal.returns-in-Turned-clause-folded
returns-in-Turned-clause-folded c X test h =
    let t = c.args.closure.now in
    let fs = c.pop.new.self.items in
    let b = c.loop-frame.board in
    subst (λ gs. IsAt t X test gs c.fold_frame.new.board) (sym c.in_ok-push-in-Turned.ensures.items)
    (folded_turned t X test fs c.in-Some.frame b c.fold_frame.new.board c.loop-frame.proof
    (subst (λ gs. IsClosing t X test gs b c.loop-frame.proof) c.in-Some.ensures.items (c.loop-frame.invariant.closing X test h))
    c.in_ok-whole.ensures.bits c.in-Turned.turned
    (λ a d l k. subst (λ f. FoldsTo t test a d c.fold_frame.new.board f) c.in-Turned.is (c.in_ok-whole.ensures.folded test a d l k)))

pub returns-in-Turned-clause-falls : goal.returns-in-Turned-clause-falls
returns-in-Turned-clause-falls c =
    let t = c.args.closure.now in
    let b = c.loop-frame.board in
    let less =
    room_turned t c.requires.0 every c.pop.new.self.items c.in-Some.frame b c.fold_frame.new.board c.loop-frame.proof
    (subst (λ gs. IsClosing t c.requires.0 every gs b c.loop-frame.proof) c.in-Some.ensures.items (c.loop-frame.invariant.closing c.requires.0 every c.requires.1))
    c.in_ok-whole.ensures.bits c.in-Turned.turned
    (λ a d l k. subst (λ f. FoldsTo t every a d c.fold_frame.new.board f) c.in-Turned.is (c.in_ok-whole.ensures.folded every a d l k)) in
    omega (arith, less, c.loop-frame.invariant.room)

pub returns-in-Turned-clause-steps : goal.returns-in-Turned-clause-steps
returns-in-Turned-clause-steps c =
    let held = ap most_steps c.in-Some.ensures.items ∙ most_steps-on c.pop.new.self.items c.in-Some.frame in
    let found = ap folded_steps c.in-Turned.is in
    let pushed = ap most_steps c.in_ok-push-in-Turned.ensures.items ∙ most_steps-on c.pop.new.self.items c.in-Turned.turned in
    omega (arith, held, found, pushed, c.in_ok-whole.ensures.steps, c.loop-frame.invariant.steps)

pub returns-clause-folded : goal.returns-clause-folded
returns-clause-folded c X test h =
    let popped = c.in_default.ensures in
    let none : c.loop-frame.frames.items ≡ [] = popped.items ∙ ap (λ fs. fs ++ []) (popped.rest ∙ ap (λ n. take (n - 1) c.loop-frame.frames.items) popped.cases.0) in
    all_closed c.args.closure.now X test c.loop-frame.board c.loop-frame.proof
    (subst (λ fs. IsClosing c.args.closure.now X test fs c.loop-frame.board c.loop-frame.proof) none (c.loop-frame.invariant.closing X test h))
