use Rattle.std.proofs.Common.{arith, subst}
use Rattle.lw_io.specs.Output.{Adds}
use Rattle.lw_eval.proofs.OutputAdded.{adds_both, take_up_to, part_of_more}
use Rattle.lw_eval.proofs.print.write_text.Goals as goal

pub returns-in-Err-clause-part : goal.returns-in-Err-clause-part
returns-in-Err-clause-part g c = part_of_more _ _ _ c.args.text.now c.loop-at.at c.line_end-end.result (omega arith) c.loop-at.invariant.added c.in-Err.ensures.part

pub loop-at-preserved : goal.loop-at-preserved
loop-at-preserved g c = record {
  within = omega arith;
  added = subst (Adds (g.K.Sink.written c.args.sink.now) (g.K.Sink.written c.write.new.self)) (take_up_to c.args.text.now c.loop-at.at c.line_end-end.result (omega arith) (omega arith))
      (adds_both _ _ _ _ _ c.loop-at.invariant.added c.in_default.ensures.whole);
  later = omega (arith, c.loop-at.invariant.later, c.write.ensures.later);
}
