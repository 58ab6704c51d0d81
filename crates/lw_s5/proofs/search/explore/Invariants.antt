use Rattle.std.proofs.Common.{◌≤◌, [], ◌∷◌, true, ◌≡◌}
use Rattle.lw_sat.specs.Course.{is_ready, steps_held, work_left, IsUnderWay}
use Rattle.lw_sat.specs.Saturated.{every}
use Rattle.lw_sat.specs.Sets.{among}
use Rattle.lw_s5.proofs.search.explore.Given as goal

abbrev pub invariant-loop-root : goal.invariant-loop-root
invariant-loop-root l = record {
  under : IsUnderWay l.closure (among (l.item ∷ [])) every l.root;
  ready : is_ready l.root ≡ true;
  steps : steps_held l.root ≤ 1;
}

abbrev pub decreases-loop-root : goal.decreases-loop-root
decreases-loop-root l = work_left l.root
