use Rattle.std.proofs.Common.{arith}
use Rattle.lw_counter.proofs.BitSquares.{closing_more, closing_end}
use Rattle.lw_counter.proofs.relation.Relation.close.Goals as goal

pub loop-middle-preserved : goal.loop-middle-preserved
loop-middle-preserved c = record {
  end = c.loop-middle.invariant.end;
  closing = closing_more c.args.self.now c.loop-middle.self c.join_through.new.self c.loop-middle.middle c.loop-middle.invariant.closing c.join_through.ensures;
}

pub returns : goal.returns
returns c = closing_end c.args.self.now c.loop-middle.self c.loop-middle.middle c.loop-middle.invariant.closing (omega arith)
