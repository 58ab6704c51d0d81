use Rattle.std.proofs.Common.{◌≡◌, drop}
use Rattle.lw_fix.specs.Private.Images.{image_at}
use Rattle.lw_fix.proofs.image.find.Given as goal

abbrev pub invariant-loop-image : goal.invariant-loop-image
invariant-loop-image l = image_at l.images l.at ≡ image_at (drop l.image-index l.images) l.at
