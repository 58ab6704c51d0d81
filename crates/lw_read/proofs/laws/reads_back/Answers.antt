use Rattle.lw_read.proofs.FaultlessTexts.{reads-back}
use Rattle.lw_read.proofs.laws.reads_back.Goals as goal

pub returns : goal.returns
returns c = reads-back
