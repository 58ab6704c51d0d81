use Rattle.std.proofs.Common.{◌≡◌, length, get_or, sym, ap, subst, ◌∙◌, arith}
use Rattle.std.specs.Cmp.Lexicographic.{pointwise_decides}
use Rattle.std.proofs.lemmas.List.{length_push}
use Rattle.std.proofs.lemmas.Result.{IfOk-weaker}
use Rattle.std.proofs.lemmas.Slice.Eq.{bytes_eq-Decides}
use Rattle.lw_bisim.specs.Private.Classes.{AreClassesBy}
use Rattle.lw_bisim.specs.Private.Rounds.{AreAlike, AreClassesOf}
use Rattle.lw_bisim.proofs.KeyedClasses.{each_more, classes_of}
use Rattle.lw_bisim.proofs.RoundKeys.{AreLettersOf, letters_told}
use Rattle.lw_bisim.proofs.rounds.by_letters.Goals as goal

pub loop-world-preserved : goal.loop-world-preserved
loop-world-preserved c = record {
  end = c.loop-world.invariant.end;
  long = omega (arith, c.loop-world.invariant.long, ap length c.in_ok-push.ensures.items, length_push c.loop-world.keys.items c.names.result);
  keys = λ i d l. subst (λ keys. AreLettersOf c.args.model.now i (get_or keys i d).now) (sym c.in_ok-push.ensures.items)
      (each_more (λ v key. AreLettersOf c.args.model.now v key.now) c.loop-world.keys.items c.names.result c.loop-world.world c.loop-world.invariant.long c.loop-world.invariant.keys
      (record { exact = c.names.ensures.exact; ordered = c.names.ensures.ordered }) i d l);
}

pub returns-clause-classes : goal.returns-clause-classes
returns-clause-classes c =
    let m = c.args.model.now in
    let keys = c.loop-world.keys.items in
    let all : c.loop-world.world ≡ m.worlds = omega (arith, c.loop-world.invariant.end, c.loop-world-test.false, c.loop-world.auto.world-end) in
    IfOk-weaker c.classes_by.result (λ classes. AreClassesBy _ keys classes.places.items classes.count) (λ classes. AreClassesOf m (AreAlike m 0) classes.places.items classes.count)
    (λ classes by.
    classes_of _ m (AreAlike m 0) keys classes.places.items classes.count (c.loop-world.invariant.long ∙ all)
    (λ v u d l k.
    letters_told _ (λ x y. pointwise_decides bytes_eq-Decides x.now y.now) m v u (get_or keys v d) (get_or keys u d)
    (c.loop-world.invariant.keys v d (omega arith)) (c.loop-world.invariant.keys u d (omega arith)))
    by)
    c.classes_by.ensures
