use Rattle.lw_ast.proofs.FirstScriptFaults.{one-count-of, one-fault-of}
use Rattle.lw_ast.proofs.laws.one_script_fault.Goals as goal

pub returns-clause-count : goal.returns-clause-count
returns-clause-count c = one-count-of

pub returns-clause-fault : goal.returns-clause-fault
returns-clause-fault c = one-fault-of
