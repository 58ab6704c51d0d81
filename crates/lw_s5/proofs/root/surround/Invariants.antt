use Rattle.lw_sat.specs.Course.{label}
use Rattle.lw_s5.specs.Private.RootedSearch.{Surrounds}
use Rattle.lw_s5.proofs.root.surround.Given as goal

abbrev pub invariant-loop-item : goal.invariant-loop-item
invariant-loop-item l = Surrounds l.closure (label l.root) l.item l.fragment
