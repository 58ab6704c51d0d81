use Rattle.lw_trans.proofs.ReflexiveModels.{Valid-boxdot}
use Rattle.lw_trans.proofs.laws.boxdot_is_faithful.Goals as goal

pub returns : goal.returns
returns c = Valid-boxdot
