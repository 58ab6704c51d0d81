use Rattle.std.proofs.Common.{◌≡◌, ◌<◌, ◌++◌, ◌∷◌, [], sym, ap, subst, ◌∙◌, arith}
use Rattle.std.specs.List.{All}
use Rattle.std.proofs.lemmas.List.Elements.{All-push}
use Rattle.lw_closure.specs.Table.{item_count}
use Rattle.lw_sat.specs.Sets.{among, top}
use Rattle.lw_search.proofs.LabelsByItem.{listed_all, listed_more, listed_skip}
use Rattle.lw_search.proofs.tableau.Tableau.items_in.Goals as goal
use Rattle.lw_search.proofs.tableau.Tableau.items_in.Goals.{then-has+in_ok-push, else-has}

pub loop-item-preserved : goal.loop-item-preserved
loop-item-preserved g c =
    let t = c.args.self.now in
    let X = top c.args.label.now.labels in
    let h = c.loop-item.invariant in
    elim c.if-has.branch [
      | then-has+in_ok-push w ↦ (let pushed : c.if-has.items.items ≡ c.loop-item.items.items ++ c.loop-item.item ∷ [] = ap (λ v. v.items) w.items-is ∙ w.in_ok-push.ensures.items in record {
        own = subst (All (λ i. i < item_count t)) (sym pushed) (All-push (λ i. i < item_count t) c.loop-item.items.items c.loop-item.item h.own (omega arith));
        same = ap among pushed ∙ listed_more X c.loop-item.item c.loop-item.items.items (sym c.has.ensures ∙ w.if-has.true) h.same;
      })
      | else-has w ↦ record {
        own = subst (All (λ i. i < item_count t)) (sym (ap (λ v. v.items) w.items-is)) h.own;
        same = ap (λ v. among v.items) w.items-is ∙ listed_skip X c.loop-item.item c.loop-item.items.items (sym c.has.ensures ∙ w.if-has.false) h.same;
      }
    ]

pub returns-clause-below : goal.returns-clause-below
returns-clause-below g c = c.loop-item.invariant.own

pub returns-clause-same : goal.returns-clause-same
returns-clause-same g c = listed_all c.args.self.now (top c.args.label.now.labels) c.loop-item.item c.loop-item.items.items c.requires (omega arith) c.loop-item.invariant.same
