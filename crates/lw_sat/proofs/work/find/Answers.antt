use Rattle.std.proofs.Common.{sym, ap, subst, ◌∙◌, ⊎_elim}
use Rattle.std.proofs.lemmas.Bool.{and_parts, both_ways}
use Rattle.lw_sat.specs.Sets.{top}
use Rattle.lw_sat.specs.Private.LabelWork.{is_nothing, IsQuiet, IsWork}
use Rattle.lw_sat.proofs.ItemDemands.{one_more_quiet}
use Rattle.lw_sat.proofs.work.find.Goals as goal
use Rattle.lw_sat.proofs.work.find.Goals.{then-has+in_default, else-has}

pub loop-item-preserved : goal.loop-item-preserved
loop-item-preserved c =
    let t = c.args.closure.now in
    let X = top c.args.board.now.labels in
    let h = c.loop-item.invariant in
    elim c.if-has.branch [
      | then-has+in_default w ↦ record {
        work =
            subst (λ f. IsWork t X f) (sym w.found-is)
            (⊎_elim (λ e. subst (λ f. IsWork t X f) (sym e) h.work) (λ e. subst (λ f. IsWork t X f) (sym e) w.work_of-work.ensures.work) w.sooner-found.ensures.which);
        quiet = λ e. (let both = and_parts _ _ (sym (ap is_nothing w.found-is ∙ w.sooner-found.ensures.none) ∙ e) in
            one_more_quiet (λ i. IsQuiet t X i) X c.loop-item.item (h.quiet both.0) (λ there. w.work_of-work.ensures.quiet both.1));
      }
      | else-has w ↦ record {
        work = subst (λ f. IsWork t X f) (sym w.found-is) h.work;
        quiet = λ e. one_more_quiet (λ i. IsQuiet t X i) X c.loop-item.item (h.quiet (sym (ap is_nothing w.found-is) ∙ e)) (λ there. absurd (both_ways _ (sym c.has.ensures ∙ w.if-has.false) there));
      }
    ]
