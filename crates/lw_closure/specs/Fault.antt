-- When there is no closure.
use Rattle.std.specs.Prelude.{◌≡◌, ◌<◌, List, ⊤}
use Rattle.lw_formula.specs.Formula.{Formula, subformula_count}
use Rattle.lw_pool.specs.declared.id.FormId.{FormId}
use Rattle.lw_pool.specs.Region.{tree_at}
use Rattle.lw_closure.specs.declared.fault.ClosureFault.{ClosureFault}
use Rattle.lw_closure.specs.declared.fault.ClosureFault.TheVariants.{TooLarge, Memory}
use Rattle.lw_closure.specs.declared.fault.TheConstants.{SUBFORMULA_LIMIT}

-- the goal has this many distinct subformulas, which are more than it may have, and the pool is as before
abbrev pub IsFault : List Formula → List Formula → FormId → ClosureFault → Type 0
IsFault old new goal (TooLarge n) = (n ≡ subformula_count (tree_at old goal)) × (SUBFORMULA_LIMIT < n) × (new ≡ old)
IsFault old new goal Memory = ⊤
