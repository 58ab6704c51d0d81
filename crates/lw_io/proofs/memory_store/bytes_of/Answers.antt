use Rattle.std.proofs.Common.{arith}
use Rattle.std.proofs.lemmas.Grind.{common_steps}
use Rattle.lw_io.proofs.MapEntries.{bytes_at-files_of}
use Rattle.lw_io.proofs.memory_store.bytes_of.Goals as goal

pub returns : goal.returns
returns c = grind (arith, common_steps, bytes_at-files_of c.args.files.now.entries c.args.name.now)
