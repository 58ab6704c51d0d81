use Rattle.lw_ast.proofs.FirstScriptFaults.{same-script}
use Rattle.lw_ast.proofs.laws.one_script.Goals as goal

pub returns : goal.returns
returns c = same-script
