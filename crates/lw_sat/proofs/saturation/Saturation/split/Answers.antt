use Rattle.std.proofs.Common.{◌+◌, ◌*◌, None, sym, ap, subst, ◌∙◌, arith}
use Rattle.lw_sat.specs.SeedPath.{held_steps, most_steps}
use Rattle.lw_sat.specs.Saturated.{every, IsAt}
use Rattle.lw_sat.specs.Course.{label}
use Rattle.lw_sat.proofs.SaturationCourse.{at_waiting, cut_moves, room_some, room_waiting, steps_waiting}
use Rattle.lw_sat.proofs.PathEnds.{most_steps-on}
use Rattle.lw_sat.proofs.OneRound.{branched, branched_room}
use Rattle.lw_sat.proofs.saturation.Saturation.split.Goals as goal

pub returns-in_err-frame-clause-work : goal.returns-in_err-frame-clause-work
returns-in_err-frame-clause-work c = let e = room_waiting c.args.self.now.board c.args.self.now.state c.requires.waits in let some = room_some c.args.self.now.board in omega arith

pub returns-in_err-push-clause-work : goal.returns-in_err-push-clause-work
returns-in_err-push-clause-work c = let e = room_waiting c.args.self.now.board c.args.self.now.state c.requires.waits in let some = room_some c.args.self.now.board in omega arith

pub returns-clause-under : goal.returns-clause-under
returns-clause-under c X test first second h =
    let t = c.args.closure.now in
    let fs = c.args.self.now.frames.items in
    let b = c.args.self.now.board in
    let there = c.requires.there in
    subst (λ gs. IsAt t X test gs c.branch-self.new.board) (sym c.in_ok-push.ensures.items)
    (branched t X test fs b (at_waiting t X test fs b c.args.self.now.state c.requires.waits h) _ (2 * c.args.formula) (2 * c.args.formula, None) (2 * c.args.formula + 1, None) c.in_ok-frame.frame c.branch-self.new.board
    (cut_moves t (label c.args.self.now) (2 * c.args.formula) (omega arith) (omega arith) c.requires.logic c.requires.modal c.requires.positive c.requires.negative)
    first second c.in_ok-frame.ensures.frame c.in_ok-frame.ensures.grown)

pub returns-clause-steps : goal.returns-clause-steps
returns-clause-steps c =
    let all = ap most_steps c.in_ok-push.ensures.items ∙ most_steps-on c.args.self.now.frames.items c.in_ok-frame.frame in
    let held = ap held_steps c.in_ok-frame.ensures.frame in
    let old = steps_waiting c.args.self.now.frames.items c.args.self.now.state c.requires.waits in
    omega (arith, all, held, old)

pub returns-clause-work : goal.returns-clause-work
returns-clause-work c =
    let t = c.args.closure.now in
    let fs = c.args.self.now.frames.items in
    let b = c.args.self.now.board in
    let there = c.requires.there in
    let e = room_waiting b c.args.self.now.state c.requires.waits in
    let less =
    branched_room t c.requires.under.0 every fs b (at_waiting t c.requires.under.0 every fs b c.args.self.now.state c.requires.waits c.requires.under.1) _ (2 * c.args.formula) (2 * c.args.formula, None) (2 * c.args.formula + 1, None) c.branch-self.new.board
    (cut_moves t (label c.args.self.now) (2 * c.args.formula) (omega arith) (omega arith) c.requires.logic c.requires.modal c.requires.positive c.requires.negative) c.in_ok-frame.ensures.grown in
    omega (arith, e, less)
