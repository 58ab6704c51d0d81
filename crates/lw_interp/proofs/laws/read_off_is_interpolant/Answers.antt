use Rattle.lw_interp.proofs.ReadInterpolants.{read_is_interpolant}
use Rattle.lw_interp.proofs.laws.read_off_is_interpolant.Goals as goal

pub returns : goal.returns
returns c = read_is_interpolant
