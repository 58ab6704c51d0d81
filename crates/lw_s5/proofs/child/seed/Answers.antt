use Rattle.std.proofs.Common.{◌≡◌, ◌<◌, ◌++◌, [], ◌∷◌, sym, ap, subst, ◌∙◌, arith, rules}
use Rattle.std.specs.List.{All}
use Rattle.std.proofs.lemmas.Bool.{and_from, and_left, and_parts, and_right}
use Rattle.std.proofs.lemmas.List.Elements.{All-push}
use Rattle.lw_proof.specs.Derivation.{is_modal_part}
use Rattle.lw_closure.specs.Table.{entry_at, item_count}
use Rattle.lw_sat.specs.Course.{label}
use Rattle.lw_sat.specs.Sets.{among}
use Rattle.lw_s5.proofs.ChildSeeds.{modal_of, seed_listed}
use Rattle.lw_s5.proofs.ItemLists.{list_all, list_more, list_skip}
use Rattle.lw_s5.proofs.child.seed.Goals as goal
use Rattle.lw_s5.proofs.child.seed.Goals.{then-is_modal+then-has+in_ok-push, else-is_modal, else-is_modal-via-then-is_modal+else-has, else-is_modal-via-else-is_modal}

pub loop-kept-preserved : goal.loop-kept-preserved
loop-kept-preserved c =
    let t = c.args.closure.now in
    let xs = c.loop-kept.seed.items in
    let n = c.loop-kept.kept in
    let X = modal_of c.args.closure.now (label c.args.root.now) in
    let h = c.loop-kept.invariant in
    elim c.if-is_modal.branch [
      | then-is_modal+then-has+in_ok-push w ↦ (
          let e : c.if-is_modal.seed.items ≡ xs ++ n ∷ [] = search rules in
          record {
            set = ap among e ∙ list_more xs n X h.set (and_from _ _ (sym c.is_modal.ensures ∙ w.if-is_modal.true) (sym w.has.ensures ∙ w.if-has.true));
            below = subst (All (λ i. i < item_count t)) (sym e) (All-push (λ i. i < item_count t) xs n h.below (omega (arith, c.loop-kept-test.true, c.count-kept-end.ensures.count)));
          }
          )
      | else-is_modal w ↦ (
          let e : c.if-is_modal.seed.items ≡ xs = search rules in
          record {
            set = ap among e ∙ list_skip xs n X h.set (elim w.else-is_modal.branch [
              | else-is_modal-via-then-is_modal+else-has v ↦ and_right _ _ (sym v.has.ensures ∙ v.if-has.false)
              | else-is_modal-via-else-is_modal v ↦ and_left _ _ (sym c.is_modal.ensures ∙ v.if-is_modal.false)
            ]);
            below = subst (All (λ i. i < item_count t)) (sym e) h.below;
          }
          )
    ]

pub returns-clause-set : goal.returns-clause-set
returns-clause-set c =
    let t = c.args.closure.now in
    let R = label c.args.root.now in
    ap among c.in_ok-push-2.ensures.items
    ∙ seed_listed t R c.args.item c.args.component c.loop-kept.seed.items c.requires.logic
    (list_all c.loop-kept.seed.items c.loop-kept.kept (modal_of t R) c.loop-kept.invariant.set (λ i e.
    let l : i < item_count t = c.requires.label.items i (and_parts (is_modal_part (entry_at t i).parts) (R i) e).1 in
    omega (arith, l, c.loop-kept-test.false, c.count-kept-end.ensures.count)))
