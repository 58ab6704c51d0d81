use Rattle.lw_counter.proofs.Countermodels.{open_models}
use Rattle.lw_counter.proofs.laws.open_fragments_are_models.Goals as goal

pub returns : goal.returns
returns c = open_models
