use Rattle.std.proofs.Common.{◌≡◌, take}
use Rattle.lw_proof.proofs.proof.Proof.+try_clone.Given as goal

abbrev pub invariant-loop-sub : goal.invariant-loop-sub
invariant-loop-sub l = l.subs.items ≡ take l.sub-index l.sub-items
