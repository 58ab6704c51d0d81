use Rattle.std.proofs.Common.{refl}
use Rattle.lw_search.proofs.ClosedSeeds.{reopens_or_closes, step_closes}
use Rattle.lw_search.proofs.LabelsUnderWork.{closing_every}
use Rattle.lw_search.proofs.tableau.Tableau.close_label.Goals as goal

pub use_step-requires-clause-wide : goal.use_step-requires-clause-wide
use_step-requires-clause-wide g c = c.requires.closes.3.waits.serves.at.wide

pub use_step-requires-clause-items : goal.use_step-requires-clause-items
use_step-requires-clause-items g c = c.requires.closes.3.waits.asks.items

pub use_step-requires-clause-item : goal.use_step-requires-clause-item
use_step-requires-clause-item g c = let asks = c.requires.closes.3.waits.asks in asks.items _ asks.there

pub use_step-requires-clause-there : goal.use_step-requires-clause-there
use_step-requires-clause-there g c = c.requires.closes.3.waits.asks.there

pub use_step-requires-clause-steps : goal.use_step-requires-clause-steps
use_step-requires-clause-steps g c = let w = c.requires.closes.3.waits in (w.inner, w.asks.steps)

pub step_rule-requires : goal.step_rule-requires
step_rule-requires g c = let asks = c.requires.closes.3.waits.asks in asks.items _ asks.there

pub over_one-requires : goal.over_one-requires
over_one-requires g c = let asks = c.requires.closes.3.waits.asks in rw c.self.view_is (asks.items _ asks.there)

pub unwind-requires : goal.unwind-requires
unwind-requires g c =
    let (aim, a, b, h) = c.requires.closes in
    (a.seed, rw c.self.view_is (closing_every (step_closes c.args.self.now aim a b c.args.level.now c.args.above c.args.proof h c.use_step.new.board c.in_ok-whole.whole (c.use_step.ensures h.waits.inner h.waits.asks.steps) (rw (c.self.view_is, c.step_rule.ensures) at c.in_ok-whole.ensures))))

pub returns : goal.returns
returns g c aim a b h few =
    let t = c.args.self.now in
    let l = c.args.level.now in
    let becomes = c.use_step.ensures h.waits.inner h.waits.asks.steps in
    let whole = rw (c.self.view_is, c.step_rule.ensures) at c.in_ok-whole.ensures in
    let e = c.unwind.ensures in
    reopens_or_closes t aim a b l c.args.above c.args.proof h c.use_step.new.board c.in_ok-whole.whole becomes whole
    (record l { frames = c.unwind.new.frames; board = c.unwind.new.board }) c.unwind.result refl (rw c.self.view_is at e.folded) e.bits e.falls e.steps few
