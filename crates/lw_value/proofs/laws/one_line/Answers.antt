use Rattle.lw_value.proofs.OneText.{one_line}
use Rattle.lw_value.proofs.laws.one_line.Goals as goal

pub returns : goal.returns
returns c = one_line
