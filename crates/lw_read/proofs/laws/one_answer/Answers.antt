use Rattle.lw_read.proofs.FaultlessTexts.{one-answer}
use Rattle.lw_read.proofs.laws.one_answer.Goals as goal

pub returns : goal.returns
returns c = one-answer
