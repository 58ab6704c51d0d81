use Rattle.std.proofs.Common.{Some, length}
use Rattle.lw_search.specs.Private.SearchLevels.{Aim, IsFallen}
use Rattle.lw_search.proofs.ClosedSeeds.{FallGoesOn}
use Rattle.lw_search.proofs.tableau.Tableau.fall.Given as goal

abbrev pub invariant-loop-level : goal.invariant-loop-level
invariant-loop-level g l = (aim : Aim) → IsFallen l.self aim l.initial.search l.initial.proof → FallGoesOn l.self aim l.initial.search l.search (Some l.proof)

abbrev pub decreases-loop-level : goal.decreases-loop-level
decreases-loop-level g l = length l.search.below.items
