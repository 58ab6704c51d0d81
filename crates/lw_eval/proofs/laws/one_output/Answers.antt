use Rattle.lw_eval.proofs.OneOutput.{one_output}
use Rattle.lw_eval.proofs.laws.one_output.Goals as goal

pub returns : goal.returns
returns c = one_output
