use Rattle.std.proofs.Common.{[], get_or}
use Rattle.lw_model.proofs.RowsEndToEnd.{row-Contains}
use Rattle.lw_model.proofs.ListGaps.{gap-Decides}
use Rattle.lw_model.proofs.ordered_rows.OrderedRows.has.Goals as goal

pub returns : goal.returns
returns g c =
    let rows = c.self.inside.rows.items in
    let there = rw c.deref.ensures.value at c.gap.ensures.there in
    let gap = rw c.deref.ensures.value at c.gap.ensures.gap in
    let tells = gap-Decides g.met.T.Ord.total (get_or rows c.args.at []) c.args.item.now c.gap.result c.is_none.result c.is_none.ensures there gap in
    let both = row-Contains rows c.args.self.now c.self.view_is c.args.at c.args.item.now in
    (λ t. both.1 (tells.0 t), λ h. tells.1 (both.0 h))
