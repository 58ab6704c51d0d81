use Rattle.std.proofs.Common.{subst}
use Rattle.std.specs.List.{Contains}
use Rattle.lw_counter.specs.Private.BuiltRelation.{SetsBits}
use Rattle.lw_counter.proofs.EdgeSquares.{links_more, links_end}
use Rattle.lw_counter.proofs.close.add_links.Goals as goal

pub loop-from-preserved : goal.loop-from-preserved
loop-from-preserved c = record {
  formed = c.loop-from.invariant.formed;
  set = links_more c.links-from-items.result.now c.args.relation.now c.loop-from.relation c.add.new.self c.loop-from.from-index c.loop-from-test.true c.loop-from.invariant.set c.add.ensures;
}

pub returns : goal.returns
returns c =
    subst (λ links. SetsBits c.args.relation.now c.loop-from.relation (λ w v. Contains links (w, v))) c.links-from-items.ensures.links
    (links_end c.links-from-items.result.now c.args.relation.now c.loop-from.relation c.loop-from.from-index c.loop-from.invariant.set c.loop-from-test.false)
