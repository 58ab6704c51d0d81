use Rattle.std.proofs.Common.{◌≡◌, ◌<◌, ◌++◌, [], ◌∷◌, sym, ap, subst, ◌∙◌, arith, rules}
use Rattle.std.specs.List.{All}
use Rattle.std.proofs.lemmas.List.Elements.{All-push}
use Rattle.lw_closure.specs.Table.{item_count}
use Rattle.lw_sat.specs.Course.{label}
use Rattle.lw_sat.specs.Sets.{among}
use Rattle.lw_s5.proofs.ItemLists.{list_all, list_more, list_skip}
use Rattle.lw_s5.proofs.label.items.Goals as goal
use Rattle.lw_s5.proofs.label.items.Goals.{then-has+in_ok-push, else-has}

pub loop-item-preserved : goal.loop-item-preserved
loop-item-preserved c =
    let t = c.args.closure.now in
    let xs = c.loop-item.items.items in
    let n = c.loop-item.item in
    let X = label c.args.saturation.now in
    let h = c.loop-item.invariant in
    elim c.if-has.branch [
      | then-has+in_ok-push w ↦ (
          let e : c.if-has.items.items ≡ xs ++ n ∷ [] = search rules in
          record {
            set = ap among e ∙ list_more xs n X h.set (sym c.has.ensures ∙ w.if-has.true);
            below = subst (All (λ i. i < item_count t)) (sym e) (All-push (λ i. i < item_count t) xs n h.below (omega (arith, c.loop-item-test.true, c.count-item-end.ensures.count)));
          }
          )
      | else-has w ↦ (
          let e : c.if-has.items.items ≡ xs = search rules in
          record {
            set = ap among e ∙ list_skip xs n X h.set (sym c.has.ensures ∙ w.if-has.false);
            below = subst (All (λ i. i < item_count t)) (sym e) h.below;
          }
          )
    ]

pub returns-clause-set : goal.returns-clause-set
returns-clause-set c = list_all c.loop-item.items.items c.loop-item.item (label c.args.saturation.now) c.loop-item.invariant.set (λ i e. let l = c.requires.items i e in omega (arith, l, c.loop-item-test.false, c.count-item-end.ensures.count))
