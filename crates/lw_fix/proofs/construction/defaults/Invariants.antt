use Rattle.std.proofs.Common.{◌≡◌, All, map, take}
use Rattle.lw_pool.specs.Region.{Grows}
use Rattle.lw_fix.specs.FixedPoint.{default_of}
use Rattle.lw_fix.specs.Private.Images.{IsImage}
use Rattle.lw_fix.proofs.construction.defaults.Given as goal

abbrev pub invariant-loop-at : goal.invariant-loop-at
invariant-loop-at l =
    Grows l.fn.pool l.pool
    × All (IsImage default_of l.pool) l.images.items
    × (map (λ i. i.of) l.images.items ≡ take l.at l.boxes)
