use Rattle.std.proofs.Common.{◌≡◌, arith, subst}
use Rattle.lw_counter.specs.Private.BuiltRelation.{AddsFacts}
use Rattle.lw_counter.proofs.GrownModels.{worlds_more}
use Rattle.lw_counter.specs.Private.LabelFacts.{SaysTrue, FactsBelow}
use Rattle.lw_counter.proofs.close.add_facts.Goals as goal

pub loop-world-preserved : goal.loop-world-preserved
loop-world-preserved c = record {
  end = c.loop-world.invariant.end;
  set =
      worlds_more c.args.pool.now c.args.closure.now c.args.model.now c.loop-world.model c.add_facts_at.new.model c.args.fragment.now c.loop-world.world c.loop-world.invariant.set
      (subst (λ label. AddsFacts c.loop-world.model c.add_facts_at.new.model (λ w p. (w ≡ c.loop-world.world) × SaysTrue c.args.pool.now c.args.closure.now label p)) c.label.ensures c.in_ok-add_facts_at.ensures);
}

pub returns-clause-added : goal.returns-clause-added
returns-clause-added c = subst (λ n. AddsFacts c.args.model.now c.loop-world.model (FactsBelow c.args.pool.now c.args.closure.now c.args.fragment.now n)) (omega arith) c.loop-world.invariant.set
