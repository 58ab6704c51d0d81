use Rattle.std.proofs.Common.{take}
use Rattle.lw_bisim.specs.Private.Joined.{AddsNames}
use Rattle.lw_bisim.proofs.joined.add_names.Given as goal

abbrev pub invariant-loop-name : goal.invariant-loop-name
invariant-loop-name l = record { added : AddsNames l.fn.joined l.class (take l.name-index l.names) l.joined }
