use Rattle.std.proofs.Common.{refl}
use Rattle.lw_search.proofs.LabelsUnderWork.{at_every, worked}
use Rattle.lw_search.proofs.tableau.Tableau.work_off.Goals as goal

pub run-requires : goal.run-requires
run-requires g c = let h = c.requires.1 in (h.stands.place.seed, rw c.self.view_is (at_every h.at))

pub returns : goal.returns
returns g c aim h =
    let ran = c.run.ensures in
    worked c.args.self.now aim c.args.search.now h (record c.args.search.now.level { frames = c.run.new.frames; board = c.run.new.board }) refl c.run.result
    (rw c.self.view_is at ran.found) ran.bits ran.falls ran.steps
