use Rattle.lw_trans.proofs.ForcingModels.{IntValid-goedel}
use Rattle.lw_trans.proofs.laws.goedel_is_faithful.Goals as goal

pub returns : goal.returns
returns c = IntValid-goedel
