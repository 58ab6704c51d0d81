use Rattle.lw_io.proofs.MapEntries.{files_of-insert}
use Rattle.lw_io.proofs.memory_store.set_bytes.Goals as goal

pub returns-clause-ok : goal.returns-clause-ok
returns-clause-ok c = files_of-insert c.args.files.now c.insert.new.self c.args.name c.args.bytes c.in_ok-insert.ensures.updates
