use Rattle.std.proofs.Common.{take, map}
use Rattle.lw_formula.specs.Formula.{Formula}
use Rattle.lw_pool.specs.Region.{Grows}
use Rattle.lw_proof.specs.Tree.{subs_of}
use Rattle.lw_proof.specs.Pooled.{proof_at}
use Rattle.lw_sets.specs.IdSets.{set_of}
use Rattle.lw_share.specs.Pooled.{table_at, IsTableLive}
use Rattle.lw_share.specs.Private.SharedSubproofs.{DerivesEach, PutsEach}
use Rattle.lw_share.proofs.steps.+put.Given as goal

abbrev pub invariant-put_subproofs-loop-i : goal.invariant-put_subproofs-loop-i
invariant-put_subproofs-loop-i l = record {
  grows : Grows l.fn.pool l.pool;
  live : IsTableLive l.pool l.sharing;
  put : (goal : Formula) → DerivesEach l.logic goal l.fn.pool l.premises l.proof →
      PutsEach l.logic goal (table_at l.fn.pool l.fn.sharing) (table_at l.pool l.sharing) (map (set_of l.fn.pool) (take l.i l.premises))
      (map (proof_at l.fn.pool) (take l.i (subs_of l.proof))) l.cites.items;
}
