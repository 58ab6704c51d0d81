use Rattle.std.proofs.Common.{◌≡◌, List}
use Rattle.lw_formula.specs.Formula.{Formula}
use Rattle.lw_pool.specs.Region.{IsLive, Grows}
use Rattle.lw_proof.specs.Pooled.{proof_at}
use Rattle.lw_interp.specs.Maehara.{read_off}
use Rattle.lw_interp.specs.Private.SideLists.{sides_at}
use Rattle.lw_interp.specs.Private.ReadingWalk.{IsWalkReady, from_id, work_left}
use Rattle.lw_interp.proofs.walk.read_off.Given as goal

abbrev pub invariant-loop-frame : goal.invariant-loop-frame
invariant-loop-frame l = record {
  ready : IsWalkReady l.pool l.walk;
  live : IsLive l.pool l.id;
  grown : Grows l.fn.pool l.pool;
  same : (ts : List Formula) → Grows l.pool ts → from_id l.logic ts l.walk l.id ≡ (l.fn.sides, read_off l.logic (sides_at ts l.fn.sides) (proof_at ts l.fn.proof));
}

abbrev pub decreases-loop-frame : goal.decreases-loop-frame
decreases-loop-frame l = work_left l.walk.frames.items
