use Rattle.std.proofs.Common.{◌+◌, sym, subst}
use Rattle.lw_model.specs.Edits.{AddsFact}
use Rattle.lw_counter.specs.Private.BuiltRelation.{AddsFacts}
use Rattle.lw_counter.proofs.GrownModels.{FactsOf, facts_more, facts_skip, facts_end}
use Rattle.lw_counter.proofs.close.add_facts_at.Goals as goal
use Rattle.lw_counter.proofs.close.add_facts_at.Goals.{in-Some+in_ok-add_fact, in_default}

pub loop-item-preserved : goal.loop-item-preserved
loop-item-preserved c = record {
  set = elim c.match-variable.branch [
    | in-Some+in_ok-add_fact w ↦
        facts_more c.args.pool.now c.args.closure.now c.args.model.now c.loop-item.model c.match-variable.model c.args.world c.args.label.now c.loop-item.item-index w.in-Some.name.now
        c.loop-item.invariant.set c.loop-item-test.true w.in-Some.ensures.some
        (subst (AddsFact c.loop-item.model c.args.world w.in-Some.name.now) (sym w.model-is) w.in_ok-add_fact.ensures.added)
    | in_default w ↦
        subst (λ m. AddsFacts c.args.model.now m (FactsOf c.args.pool.now c.args.closure.now c.args.world c.args.label.now (c.loop-item.item-index + 1))) (sym w.model-is)
        (facts_skip c.args.pool.now c.args.closure.now c.args.model.now c.loop-item.model c.args.world c.args.label.now c.loop-item.item-index c.loop-item.invariant.set c.loop-item-test.true w.in_default.ensures.none)
  ];
}

pub returns : goal.returns
returns c = facts_end c.args.pool.now c.args.closure.now c.args.model.now c.loop-item.model c.args.world c.args.label.now c.loop-item.item-index c.loop-item.invariant.set c.loop-item-test.false
