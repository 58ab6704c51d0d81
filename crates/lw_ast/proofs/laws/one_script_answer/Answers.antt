use Rattle.lw_ast.proofs.FirstScriptFaults.{one-answer}
use Rattle.lw_ast.proofs.laws.one_script_answer.Goals as goal

pub returns : goal.returns
returns c = one-answer
