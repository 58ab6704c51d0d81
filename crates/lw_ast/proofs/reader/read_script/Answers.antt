use Rattle.lw_ast.proofs.ScriptReader.{scripts-read}
use Rattle.lw_ast.proofs.reader.read_script.Goals as goal

pub read_text-requires-clause-reads : goal.read_text-requires-clause-reads
read_text-requires-clause-reads c = scripts-read
