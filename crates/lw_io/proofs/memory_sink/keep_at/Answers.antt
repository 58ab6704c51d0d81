use Rattle.std.specs.FinMap.{get-from_entries}
use Rattle.std.proofs.lemmas.Cmp.{nat_cmp_total}
use Rattle.lw_io.proofs.memory_sink.keep_at.Goals as goal

pub loop-number-init : goal.loop-number-init
loop-number-init c = get-from_entries nat_cmp_total _ _
