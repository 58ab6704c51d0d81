use Rattle.std.proofs.Common.{ℕ, ◌<◌}
use Rattle.lw_counter.specs.Fragment.{items_of}
use Rattle.lw_sat.specs.Sets.{top}
use Rattle.lw_search.specs.Ranked.{IsServedBy}
use Rattle.lw_search.proofs.tableau.Tableau.target.Given as goal

abbrev pub invariant-loop-world : goal.invariant-loop-world
invariant-loop-world g l = (w : ℕ) → w < l.world → ¬ IsServedBy l.self (top l.label.labels) (items_of l.fragment w) l.inner
