use Rattle.std.proofs.Common.{ap}
use Rattle.lw_value.specs.Views.{value_of}
use Rattle.lw_value.proofs.LikeValues.{counts-tell}
use Rattle.lw_value.proofs.equality.have_like_heads.Goals as goal

pub returns-in-Items-Items : goal.returns-in-Items-Items
returns-in-Items-Items c =
    counts-tell c.count.result c.count-in-Items-Items.result c.in-Items-Items.left c.in-Items-Items.right (value_of c.args.left.now) (value_of c.args.right.now)
    c.count.ensures c.count-in-Items-Items.ensures (ap value_of c.in-Items-Items.is-0) (ap value_of c.in-Items-Items.is-1)
