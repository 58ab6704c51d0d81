use Rattle.std.proofs.Common.{ℕ, subst}
use Rattle.lw_proof.specs.System.{Set}
use Rattle.lw_proof.specs.Derivation.{added}
use Rattle.lw_closure.specs.Items.{items}
use Rattle.lw_sat.specs.SeedPath.{spot_of, Becomes}
use Rattle.lw_sat.specs.Sets.{top, without}
use Rattle.lw_sat.proofs.BoardSpots.{set_of}
use Rattle.lw_search.specs.Private.StepUse.{sent}
use Rattle.lw_search.proofs.tableau.Tableau.use_step.Goals as goal

pub returns : goal.returns
returns g c k e =
    let t = c.args.self.now in
    let b = c.args.board.now in
    subst (λ (W : Set ℕ). Becomes b c.keep_sent.new.board (record (spot_of b) { set = sent t (top b.labels) c.args.item W }))
    (set_of c.args.above.now c.leave_added.new.above (record (spot_of c.args.above.now) { set = without (added (items t) t.logic c.args.item k) (top c.args.above.now.labels) }) (c.leave_added.ensures k e)) c.keep_sent.ensures
