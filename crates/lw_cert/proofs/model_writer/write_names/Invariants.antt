use Rattle.std.proofs.Common.{◌≡◌, ◌++◌, take}
use Rattle.lw_cert.specs.Lines.{words}
use Rattle.lw_cert.proofs.model_writer.write_names.Given as goal

abbrev pub invariant-loop-name : goal.invariant-loop-name
invariant-loop-name l = l.out.items ≡ l.fn.out.items ++ words (take l.name-index l.names)
