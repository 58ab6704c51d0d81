use Rattle.std.proofs.Common.{◌≡◌, min, take}
use Rattle.std.below.core.specs.declared.int.usize.TheConstants as usize
use Rattle.lw_proof.specs.Tree.{forest, depth_all}
use Rattle.lw_proof.proofs.proof.Proof.+depth.Given as goal

abbrev pub invariant-loop-sub : goal.invariant-loop-sub
invariant-loop-sub l = l.deepest ≡ min (depth_all (forest (take l.sub-index l.sub-items))) usize.MAX
