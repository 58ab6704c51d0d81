use Rattle.std.proofs.Common.{◌≡◌, ◌+◌, ◌*◌, ◌≤◌, List}
use Rattle.lw_formula.specs.Formula.{Formula}
use Rattle.lw_pool.specs.Region.{Grows}
use Rattle.lw_proof.specs.Tree.{lines}
use Rattle.lw_interp.specs.Private.ReadSteps.{IsReadable}
use Rattle.lw_interp.specs.Private.ReadingWalk.{IsWalkReady, from_proof, work_left}
use Rattle.lw_interp.proofs.walk.Walk.descend.Given as goal

abbrev pub invariant-loop-sub : goal.invariant-loop-sub
invariant-loop-sub l = record {
  ready : IsWalkReady l.pool l.self;
  readable : IsReadable l.pool l.at;
  few : work_left l.self.frames.items + 2 * lines l.at ≤ work_left l.fn.self.frames.items + 2 * lines l.fn.proof;
  same : (ts : List Formula) → Grows l.pool ts → from_proof l.logic ts l.self l.at ≡ from_proof l.logic ts l.fn.self l.fn.proof;
}

abbrev pub decreases-loop-sub : goal.decreases-loop-sub
decreases-loop-sub l = lines l.at
