use Rattle.std.proofs.Common.{[], subst}
use Rattle.std.proofs.lemmas.List.{get_or_read}
use Rattle.lw_model.specs.Edits.{AddsFact}
use Rattle.lw_bisim.proofs.JoinedClasses.{names_more}
use Rattle.lw_bisim.proofs.joined.add_names.Goals as goal

pub loop-name-preserved : goal.loop-name-preserved
loop-name-preserved c = record {
  added =
      names_more c.args.joined.now c.loop-name.joined c.add_fact.new.self c.args.class c.loop-name.name-index c.args.names.now [] c.loop-name.invariant.added c.loop-name-test.true
      (subst (λ p. AddsFact c.loop-name.joined c.args.class p c.add_fact.new.self) (get_or_read c.args.names.now c.loop-name.name-index c.name-item.result c.loop-name-test.true c.name-item.is []) c.in_ok-add_fact.ensures.added);
}
