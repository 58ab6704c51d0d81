use Rattle.std.proofs.Common.{ap, length, sym, ◌∙◌, arith, subst}
use Rattle.std.proofs.lemmas.List.{get_or_read}
use Rattle.lw_bisim.specs.Private.Joined.{AddsSeen}
use Rattle.lw_bisim.proofs.RoundKeys.{seen_placed}
use Rattle.lw_bisim.proofs.JoinedClasses.{joined_more}
use Rattle.lw_bisim.proofs.joined.joined.Goals as goal

pub add_seen-requires-clause-seen : goal.add_seen-requires-clause-seen
add_seen-requires-clause-seen c =
    seen_placed c.args.model.now c.worlds-world-end.ensures.well_formed c.loop-world.world _ c.successors.result.now
    (ap length c.deref.ensures.value ∙ c.requires.placed) c.successors.ensures.exact

pub loop-world-preserved : goal.loop-world-preserved
loop-world-preserved c = record {
  end = c.loop-world.invariant.end;
  joined =
      joined_more c.args.model.now c.args.classes.now.places.items c.args.classes.now.count c.loop-world.world c.index-class.result.now c.loop-world.joined c.add_seen.new.joined c.add_names.new.joined
      c.successors.result.now c.names.result.now c.loop-world.invariant.joined
      (sym (get_or_read c.args.classes.now.places.items c.loop-world.world c.index-class.result.now (omega arith) c.index-class.ensures 0)) c.successors.ensures.exact c.names.ensures.exact
      (subst (λ ps. AddsSeen ps c.loop-world.joined c.index-class.result.now c.successors.result.now c.add_seen.new.joined) c.deref.ensures.value c.in_ok-add_seen.ensures) c.in_ok-add_names.ensures;
}
