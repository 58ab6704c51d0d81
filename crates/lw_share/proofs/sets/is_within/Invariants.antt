use Rattle.std.proofs.Common.{take}
use Rattle.lw_proof.specs.System.{IsWithin}
use Rattle.lw_sets.specs.IdSets.{set_of}
use Rattle.lw_share.proofs.sets.is_within.Given as goal

abbrev pub invariant-loop-item : goal.invariant-loop-item
invariant-loop-item l = IsWithin (set_of l.pool (take l.item-index l.items)) (set_of l.pool l.set)
