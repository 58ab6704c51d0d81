use Rattle.lw_interp.proofs.ReadInterpolants.{read_is_small}
use Rattle.lw_interp.proofs.laws.read_off_is_small.Goals as goal

pub returns : goal.returns
returns c = read_is_small
