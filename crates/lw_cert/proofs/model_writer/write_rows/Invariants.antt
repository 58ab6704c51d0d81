use Rattle.std.proofs.Common.{◌≡◌}
use Rattle.lw_cert.specs.Private.LineWriting.{WritesRows}
use Rattle.lw_cert.proofs.model_writer.write_rows.Given as goal

abbrev pub invariant-loop-world : goal.invariant-loop-world
invariant-loop-world l = record { end : l.world-end ≡ l.model.worlds; written : WritesRows l.model l.world l.fn.out.items l.out.items }
