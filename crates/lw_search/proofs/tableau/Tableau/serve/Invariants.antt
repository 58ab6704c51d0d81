use Rattle.std.proofs.Common.{◌≡◌, ◌-◌, ◌≤◌}
use Rattle.lw_closure.specs.Table.{item_count}
use Rattle.lw_search.specs.Private.SearchLevels.{Aim, IsServing, serving_room}
use Rattle.lw_search.proofs.tableau.Tableau.serve.Given as goal

abbrev pub invariant-loop-search : goal.invariant-loop-search
invariant-loop-search g l = (aim : Aim) → IsServing l.self aim l.initial.search → IsServing l.self aim l.search × (serving_room l.self aim.bound l.search ≤ serving_room l.self aim.bound l.initial.search) × (l.search.below ≡ l.initial.search.below)

abbrev pub decreases-loop-search : goal.decreases-loop-search
decreases-loop-search g l = item_count l.self - l.search.level.item
