use Rattle.std.proofs.Common.{◌<◌, false, ◌&&◌, length, get_or, take, sym, ap, ◌∙◌, arith}
use Rattle.std.specs.List.{list_all}
use Rattle.std.proofs.lemmas.List.Folds.{list_all_more}
use Rattle.lw_trace.proofs.RowTruth.{more_values}
use Rattle.lw_trace.proofs.truth_rows.all_before.Goals as goal

pub loop-value-preserved : goal.loop-value-preserved
loop-value-preserved c =
    let row = c.args.row.now in
    let at = c.loop-value.value-index in
    let here : at < length row = omega arith in
    record {
      values = more_values (λ k. list_all (λ b. b) (take k row)) at c.loop-value.values.items c.push.new.self.items c.loop-value.all
          c.in_ok-push.ensures.items c.loop-value.invariant.values c.loop-value.invariant.all;
      all = ap (λ b. b && get_or row at false) c.loop-value.invariant.all ∙ sym (list_all_more (λ b. b) row at false here);
    }
