use Rattle.std.proofs.Common.{◌≤◌, length}
use Rattle.lw_search.specs.Private.SearchLevels.{Aim, IsServing, serving_room}
use Rattle.lw_search.proofs.tableau.Tableau.rise.Given as goal

abbrev pub invariant-loop-search : goal.invariant-loop-search
invariant-loop-search g l = (aim : Aim) → IsServing l.self aim l.initial.search → IsServing l.self aim l.search × (serving_room l.self aim.bound l.search ≤ serving_room l.self aim.bound l.initial.search)

abbrev pub decreases-loop-search : goal.decreases-loop-search
decreases-loop-search g l = length l.search.below.items
