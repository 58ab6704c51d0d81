use Rattle.std.proofs.Common.{ℕ, ◌≡◌, ◌<◌, false}
use Rattle.lw_counter.specs.Fragment.{items_of}
use Rattle.lw_s5.proofs.root.is_in_world.Given as goal

abbrev pub invariant-loop-world : goal.invariant-loop-world
invariant-loop-world l = (w : ℕ) → w < l.world → items_of l.fragment w l.item ≡ false
