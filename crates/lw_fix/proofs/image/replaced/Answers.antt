use Rattle.std.proofs.Common.{sym, subst, ◌∙◌}
use Rattle.lw_pool.specs.Region.{tree_at, IsAt}
use Rattle.lw_fix.specs.Private.Images.{image_in}
use Rattle.lw_fix.proofs.ImagesFound.{or_self, image_at-right}
use Rattle.lw_fix.proofs.image.replaced.Goals as goal

pub returns-in-Some : goal.returns-in-Some
returns-in-Some c =
    subst (λ r. IsAt c.args.pool.now (image_in c.args.pool.now c.args.images.now (tree_at c.args.pool.now c.args.at)) (or_self r c.args.at)) (sym c.find.ensures ∙ c.in-Some.is)
    (image_at-right c.args.pool.now c.count.ensures.ids c.args.images.now c.requires.images c.args.at c.requires.at)

pub returns-in-None : goal.returns-in-None
returns-in-None c =
    subst (λ r. IsAt c.args.pool.now (image_in c.args.pool.now c.args.images.now (tree_at c.args.pool.now c.args.at)) (or_self r c.args.at)) (sym c.find.ensures ∙ c.in-None.is)
    (image_at-right c.args.pool.now c.count.ensures.ids c.args.images.now c.requires.images c.args.at c.requires.at)
