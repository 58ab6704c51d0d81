use Rattle.lw_fix.proofs.ConstructedFormulas.{without_each-same}
use Rattle.lw_fix.proofs.laws.order_says_nothing.Goals as goal

pub returns : goal.returns
returns c = without_each-same
