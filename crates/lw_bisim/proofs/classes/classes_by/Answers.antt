use Rattle.std.proofs.Common.{◌++◌, ◌∷◌, [], length, rules, sym, subst, ◌∙◌}
use Rattle.std.proofs.lemmas.List.{map-id}
use Rattle.std.proofs.lemmas.Iterator.Adapters.{YieldsList-from_vec}
use Rattle.std.proofs.lemmas.Iterator.Consumers.{YieldsList-end}
use Rattle.lw_bisim.specs.Private.Classes.{AreClassesBy}
use Rattle.lw_bisim.proofs.NumberedKeys.{AreNumberedBy, numbered_more, numbered_all}
use Rattle.lw_bisim.proofs.classes.classes_by.Goals as goal

pub loop-key-preserved : goal.loop-key-preserved
loop-key-preserved g c = record {
  numbered =
      subst (AreNumberedBy g.K.PartialEq.eq g.met.K.Eq.laws (c.loop-key.yielded ++ c.in-Some.key ∷ []) c.insert_full.new.self.keys) (sym c.in_ok-push.ensures.items)
      (numbered_more g.K.PartialEq.eq g.met.K.Eq.laws c.loop-key.yielded c.loop-key.known.keys c.insert_full.new.self.keys c.loop-key.places.items c.in-Some.key c.in_ok-place.place
      c.loop-key.invariant.numbered c.in_ok-place.ensures.keys c.in_ok-place.ensures.within c.in_ok-place.ensures.stored);
}

pub returns : goal.returns
returns g c =
    let end = YieldsList-end (YieldsList-from_vec {s = c.into_iter-key-iterator.result} c.args.keys.items (search rules) (search rules))
    c.loop-key.yielded c.loop-key.key-iterator c.loop-key.yielded_by c.next.result c.next.new.self c.in-None.is c.next.ensures.steps in
    subst (λ n. AreClassesBy g.K.PartialEq.eq c.args.keys.items c.loop-key.places.items n) (sym c.len-count.ensures.len)
    (subst (λ keys. AreClassesBy g.K.PartialEq.eq keys c.loop-key.places.items (length c.loop-key.known.keys)) (sym (map-id c.loop-key.yielded) ∙ end.0)
    (numbered_all g.K.PartialEq.eq g.met.K.Eq.laws c.loop-key.yielded c.loop-key.known.keys c.loop-key.places.items c.loop-key.invariant.numbered))
