use Rattle.lw_closure.proofs.GrownClosures.{growth}
use Rattle.lw_closure.proofs.laws.growth_keeps.Goals as goal

pub returns : goal.returns
returns c = growth
