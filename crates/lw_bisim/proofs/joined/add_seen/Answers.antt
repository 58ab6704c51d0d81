use Rattle.lw_bisim.proofs.JoinedClasses.{seen_more}
use Rattle.lw_bisim.proofs.joined.add_seen.Goals as goal

pub loop-world-preserved : goal.loop-world-preserved
loop-world-preserved c = record {
  added =
      seen_more c.args.places.now c.args.joined.now c.loop-world.joined c.add_pair.new.self c.args.class c.loop-world.world-index c.args.seen.now
      c.loop-world.invariant.added c.loop-world-test.true c.in_ok-add_pair.ensures.added;
}
