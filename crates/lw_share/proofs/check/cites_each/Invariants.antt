use Rattle.std.proofs.Common.{ℕ, ◌<◌, get_or, List}
use Rattle.lw_pool.specs.declared.id.SignedId.{SignedId}
use Rattle.lw_proof.specs.System.{IsWithin}
use Rattle.lw_sets.specs.IdSets.{set_of}
use Rattle.lw_share.specs.Pooled.{line_of}
use Rattle.lw_share.proofs.check.cites_each.Given as goal

abbrev pub invariant-loop-i : goal.invariant-loop-i
invariant-loop-i l =
    (k d : ℕ) (e : List SignedId) → k < l.i → IsWithin (set_of l.pool (line_of l.table (get_or l.cites k d)).members) (set_of l.pool (get_or l.premises k e))
