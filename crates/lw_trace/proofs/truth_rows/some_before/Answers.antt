use Rattle.std.proofs.Common.{◌<◌, false, ◌||◌, length, get_or, take, sym, ap, ◌∙◌, arith}
use Rattle.std.specs.List.{list_any}
use Rattle.std.proofs.lemmas.List.Folds.{list_any_more}
use Rattle.lw_trace.proofs.RowTruth.{more_values}
use Rattle.lw_trace.proofs.truth_rows.some_before.Goals as goal

pub loop-value-preserved : goal.loop-value-preserved
loop-value-preserved c =
    let row = c.args.row.now in
    let at = c.loop-value.value-index in
    let here : at < length row = omega arith in
    record {
      values = more_values (λ k. list_any (λ b. b) (take k row)) at c.loop-value.values.items c.push.new.self.items c.loop-value.some
          c.in_ok-push.ensures.items c.loop-value.invariant.values c.loop-value.invariant.some;
      some = ap (λ b. b || get_or row at false) c.loop-value.invariant.some ∙ sym (list_any_more (λ b. b) row at false here);
    }
