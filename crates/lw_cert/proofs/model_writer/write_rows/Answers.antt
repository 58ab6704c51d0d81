use Rattle.std.proofs.Common.{◌≡◌, subst, arith}
use Rattle.lw_cert.specs.Private.LineWriting.{WritesRows}
use Rattle.lw_cert.proofs.WorldRows.{rows-none, rows-more}
use Rattle.lw_cert.proofs.model_writer.write_rows.Goals as goal

pub loop-world-init : goal.loop-world-init
loop-world-init c = record { end = c.worlds-world-end.ensures.worlds; written = rows-none c.args.model.now c.args.out.now.items }

pub loop-world-preserved : goal.loop-world-preserved
loop-world-preserved c = record {
  end = c.loop-world.invariant.end;
  written = rows-more c.args.model.now c.loop-world.world c.args.out.now.items c.loop-world.out.items c.write_row.new.out.items c.loop-world.invariant.written c.in_ok-write_row.ensures;
}

pub returns : goal.returns
returns c = let all : c.loop-world.world ≡ c.args.model.now.worlds = omega (arith, c.loop-world.invariant.end) in subst (λ k. WritesRows c.args.model.now k c.args.out.now.items c.loop-world.out.items) all c.loop-world.invariant.written
