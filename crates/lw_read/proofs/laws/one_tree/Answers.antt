use Rattle.lw_read.proofs.MachineAccepts.{same_tree}
use Rattle.lw_read.proofs.laws.one_tree.Goals as goal

pub returns : goal.returns
returns c = same_tree
