use Rattle.std.proofs.Common.{◌≡◌, ◌+◌, min, take}
use Rattle.std.below.core.specs.declared.int.usize.TheConstants as usize
use Rattle.lw_proof.specs.Tree.{forest, lines_all}
use Rattle.lw_proof.proofs.proof.Proof.+lines.Given as goal

abbrev pub invariant-loop-sub : goal.invariant-loop-sub
invariant-loop-sub l = l.count ≡ min (lines_all (forest (take l.sub-index l.sub-items)) + 1) usize.MAX
