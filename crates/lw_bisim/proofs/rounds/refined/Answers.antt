use Rattle.std.proofs.Common.{◌≡◌, ℕ, suc, length, get_or, ◌↔◌, sym, ap, subst, ◌∙◌, arith}
use Rattle.std.specs.List.{Contains}
use Rattle.std.proofs.lemmas.List.{length_push, get_or_read}
use Rattle.std.proofs.lemmas.Result.{IfOk-weaker}
use Rattle.lw_bisim.specs.Private.Classes.{AreClassesBy, HasClass}
use Rattle.lw_bisim.specs.Private.Rounds.{AreAlike, AreClassesOf}
use Rattle.lw_bisim.specs.Quotient.{place_of}
use Rattle.lw_bisim.proofs.KeyedClasses.{each_more, classes_of}
use Rattle.lw_bisim.proofs.RoundKeys.{AreClassesSeen, seen_placed, seen_classes, keys_told}
use Rattle.lw_bisim.proofs.rounds.refined.Goals as goal

pub seen_classes-requires : goal.seen_classes-requires
seen_classes-requires c =
    seen_placed c.args.model.now c.loop-world.invariant.well_formed c.loop-world.world _ c.successors.result.now
    (ap length c.deref.ensures.value ∙ c.requires) c.successors.ensures.exact

pub loop-world-preserved : goal.loop-world-preserved
loop-world-preserved c =
    let m = c.args.model.now in
    let places = c.args.classes.now.places.items in
    let keys = c.loop-world.keys.items in
    let world = c.loop-world.world in
    let long = c.loop-world.invariant.long in record {
      end = c.loop-world.invariant.end;
      well_formed = c.loop-world.invariant.well_formed;
      long = omega (arith, long, ap length c.in_ok-push.ensures.items, length_push keys (c.index.result.now, c.in_ok-seen.seen));
      own = λ i d l. subst (λ all. (get_or all i d).0 ≡ place_of places i) (sym c.in_ok-push.ensures.items)
          (each_more (λ v key. key.0 ≡ place_of places v) keys (c.index.result.now, c.in_ok-seen.seen) world long c.loop-world.invariant.own
          (get_or_read places world c.index.result.now (omega arith) c.index.ensures 0) i d l);
      seen = λ i d l. subst (λ all. AreClassesSeen m places i (get_or all i d).1.items) (sym c.in_ok-push.ensures.items)
          (each_more (λ v key. AreClassesSeen m places v key.1.items) keys (c.index.result.now, c.in_ok-seen.seen) world long c.loop-world.invariant.seen
          (seen_classes m places world c.successors.result.now c.in_ok-seen.seen.items c.successors.ensures.exact
          (subst (λ ps. (e : ℕ) → Contains c.in_ok-seen.seen.items e ↔ HasClass ps c.successors.result.now e) c.deref.ensures.value c.in_ok-seen.ensures.exact)
          c.in_ok-seen.ensures.ordered) i d l);
    }

pub returns : goal.returns
returns c = λ k of.
    let m = c.args.model.now in
    let keys = c.loop-world.keys.items in
    let places = c.args.classes.now.places.items in
    let all : c.loop-world.world ≡ m.worlds = omega (arith, c.loop-world.invariant.end, c.loop-world-test.false, c.loop-world.auto.world-end) in
    IfOk-weaker c.classes_by.result (λ finer. AreClassesBy _ keys finer.places.items finer.count) (λ finer. AreClassesOf m (AreAlike m (suc k)) finer.places.items finer.count)
    (λ finer by.
    classes_of _ m (AreAlike m (suc k)) keys finer.places.items finer.count (c.loop-world.invariant.long ∙ all)
    (λ v u d l n.
    keys_told m c.loop-world.invariant.well_formed k places c.args.classes.now.count of v u (get_or keys v d).0 (get_or keys u d).0 (get_or keys v d).1.items (get_or keys u d).1.items l n
    (c.loop-world.invariant.own v d (omega arith)) (c.loop-world.invariant.own u d (omega arith))
    (c.loop-world.invariant.seen v d (omega arith)) (c.loop-world.invariant.seen u d (omega arith)))
    by)
    c.classes_by.ensures
