use Rattle.std.proofs.Common.{◌+◌, sym, subst, ◌∙◌}
use Rattle.std.proofs.lemmas.Bool.{false≢true}
use Rattle.lw_model.specs.Edits.{AddsPair}
use Rattle.lw_counter.specs.Private.BuiltRelation.{AddsPairs}
use Rattle.lw_counter.proofs.GrownModels.{PairsOfRow, pairs_more, pairs_skip}
use Rattle.lw_counter.proofs.close.add_pairs_from.Goals as goal
use Rattle.lw_counter.proofs.close.add_pairs_from.Goals.{then-has+in_ok-add_pair, else-has}

pub loop-to-preserved : goal.loop-to-preserved
loop-to-preserved c = record {
  end = c.loop-to.invariant.end;
  set = elim c.if-has.branch [
    | then-has+in_ok-add_pair w ↦
        pairs_more c.args.relation.now c.args.model.now c.loop-to.model c.if-has.model c.args.from c.loop-to.to c.loop-to.invariant.set
        (c.has.ensures.0 w.if-has.true) (subst (AddsPair c.loop-to.model c.args.from c.loop-to.to) (sym w.model-is) w.in_ok-add_pair.ensures.added)
    | else-has w ↦
        subst (λ m. AddsPairs c.args.model.now m (PairsOfRow c.args.relation.now c.args.from (c.loop-to.to + 1))) (sym w.model-is)
        (pairs_skip c.args.relation.now c.args.model.now c.loop-to.model c.args.from c.loop-to.to c.loop-to.invariant.set (λ j. false≢true (sym w.if-has.false ∙ c.has.ensures.1 j)))
  ];
}
