use Rattle.std.proofs.Common.{[], ◌∷◌}
use Rattle.lw_sat.specs.Sets.{among}
use Rattle.lw_search.specs.Private.SearchLevels.{IsUnderWork, work_room}
use Rattle.lw_search.specs.Ranked.{IsGoal}
use Rattle.lw_search.proofs.explore.explore.Given as goal

abbrev pub invariant-loop-search : goal.invariant-loop-search
invariant-loop-search g l = record {
  goal : IsGoal l.pool l.closure (among (l.item ∷ []));
  work : IsUnderWork l.closure (record { rank = g.R.StepRule.suffice l.pool l.closure; seed = among (l.item ∷ []); bound = g.R.StepRule.bound l.pool l.closure }) l.search;
}

abbrev pub decreases-loop-search : goal.decreases-loop-search
decreases-loop-search g l = work_room l.closure (g.R.StepRule.bound l.pool l.closure) l.search
