use Rattle.std.proofs.Common.{sym, ap, subst, arith}
use Rattle.lw_sat.specs.Course.{state_room, StateFits}
use Rattle.lw_sat.specs.Saturated.{every, room}
use Rattle.lw_sat.proofs.SaturationCourse.{at_waiting, below_left, closing_label, fits_after, room_after, room_some, room_waiting}
use Rattle.lw_sat.proofs.saturation.Saturation.refuse.Goals as goal

pub unwind-requires : goal.unwind-requires
unwind-requires c =
    let s = c.args.self.now in
    (c.requires.under.0, closing_label c.args.closure.now c.requires.under.0 every s.frames.items s.board c.args.proof (at_waiting c.args.closure.now c.requires.under.0 every s.frames.items s.board s.state c.requires.waits c.requires.under.1) c.requires.closes)

pub returns-in_err-found-clause-work : goal.returns-in_err-found-clause-work
returns-in_err-found-clause-work c = let e = room_waiting c.args.self.now.board c.args.self.now.state c.requires.waits in let some = room_some c.args.self.now.board in omega arith

pub returns-clause-under : goal.returns-clause-under
returns-clause-under c X test h =
    let s = c.args.self.now in
    let t = c.args.closure.now in
    subst (λ st. StateFits t X test c.unwind.new.frames.items c.unwind.new.board st) (sym c.state_after.ensures)
    (fits_after t X test c.unwind.new.frames.items c.unwind.new.board c.in_ok-found.found
    (c.in_ok-found.ensures.folded X test (closing_label t X test s.frames.items s.board c.args.proof (at_waiting t X test s.frames.items s.board s.state c.requires.waits h) c.requires.closes)))

pub returns-clause-work : goal.returns-clause-work
returns-clause-work c =
    let s = c.args.self.now in
    let e = room_waiting s.board s.state c.requires.waits in
    let less = room_after c.unwind.new.board (room s.board) _ c.in_ok-found.found (below_left s.board) (room_some s.board) c.in_ok-found.ensures.falls in
    let same = ap (state_room c.unwind.new.board) c.state_after.ensures in
    omega (arith, e, less, same)
