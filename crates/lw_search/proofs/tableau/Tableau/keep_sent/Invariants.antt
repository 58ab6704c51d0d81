use Rattle.std.proofs.Common.{◌||◌, eqb}
use Rattle.lw_sat.specs.SeedPath.{spot_of, Becomes}
use Rattle.lw_sat.specs.Sets.{top}
use Rattle.lw_search.specs.Private.StepUse.{kept_of, meets}
use Rattle.lw_search.proofs.LabelsByItem.{cleared}
use Rattle.lw_search.proofs.tableau.Tableau.keep_sent.Given as goal

abbrev pub invariant-loop-other : goal.invariant-loop-other
invariant-loop-other g l =
    Becomes l.initial.board l.board (record (spot_of l.initial.board) { set = cleared (top l.initial.board.labels) (λ i. eqb l.item i || meets l.self (kept_of l.self i) (top l.above.labels)) l.other })
