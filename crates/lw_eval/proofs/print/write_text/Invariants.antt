use Rattle.std.proofs.Common.{◌-◌, ◌≤◌, length, take}
use Rattle.lw_io.specs.Output.{Adds}
use Rattle.lw_eval.proofs.print.write_text.Given as goal

-- the text is written up to this byte
abbrev pub invariant-loop-at : goal.invariant-loop-at
invariant-loop-at g l = record {
  within : l.at ≤ length l.text;
  added : Adds (g.K.Sink.written l.fn.sink) (g.K.Sink.written l.sink) (take l.at l.text);
  later : g.K.Sink.faults l.fn.sink ≤ g.K.Sink.faults l.sink;
}

abbrev pub decreases-loop-at : goal.decreases-loop-at
decreases-loop-at g l = length l.text - l.at
