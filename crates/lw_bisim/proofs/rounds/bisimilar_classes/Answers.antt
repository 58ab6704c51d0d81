use Rattle.std.proofs.Common.{suc}
use Rattle.lw_bisim.proofs.NextRounds.{fewer_left, bisimilar}
use Rattle.lw_bisim.proofs.rounds.bisimilar_classes.Goals as goal

pub returns-then-finer-classes-clause-classes : goal.returns-then-finer-classes-clause-classes
returns-then-finer-classes-clause-classes c =
    let round = c.loop-classes.invariant.round in
    let old = c.loop-classes.classes in
    let new = c.in_ok-finer.finer in
    bisimilar c.args.model.now round.0 old.places.items new.places.items old.count new.count round.1 (c.in_ok-finer.ensures round.0 round.1)
    c.loop-classes.invariant.well_formed c.if-finer-classes.true

pub loop-classes-smaller : goal.loop-classes-smaller
loop-classes-smaller c =
    let round = c.loop-classes.invariant.round in
    let old = c.loop-classes.classes in
    let new = c.in_ok-finer.finer in
    fewer_left c.args.model.now round.0 old.places.items new.places.items old.count new.count round.1 (c.in_ok-finer.ensures round.0 round.1) c.if-finer-classes.false

pub loop-classes-preserved : goal.loop-classes-preserved
loop-classes-preserved c = record {
  well_formed = c.loop-classes.invariant.well_formed;
  round = let round = c.loop-classes.invariant.round in (suc round.0, c.in_ok-finer.ensures round.0 round.1);
}
