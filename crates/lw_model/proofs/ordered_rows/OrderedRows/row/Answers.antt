use Rattle.std.proofs.Common.{◌≡◌, [], get_or, sym, rules}
use Rattle.lw_model.proofs.ListGaps.{sorted-nil}
use Rattle.lw_model.proofs.RowsEndToEnd.{row-Contains}
use Rattle.lw_model.proofs.ordered_rows.OrderedRows.row.Goals as goal

pub returns-in-Some-clause-exact : goal.returns-in-Some-clause-exact
returns-in-Some-clause-exact g c =
    let items : c.as_slice.result.now ≡ get_or c.self.inside.rows.items c.args.at [] = search rules in
    λ x. let both = row-Contains c.self.inside.rows.items c.args.self.now c.self.view_is c.args.at x in rw items (both.1, both.0)

pub returns-in-None-clause-exact : goal.returns-in-None-clause-exact
returns-in-None-clause-exact g c =
    let items : [] ≡ get_or c.self.inside.rows.items c.args.at [] = search rules in
    λ x. let both = rw (sym items) at (row-Contains c.self.inside.rows.items c.args.self.now c.self.view_is c.args.at x) in (both.1, both.0)

pub returns-in-None-clause-ordered : goal.returns-in-None-clause-ordered
returns-in-None-clause-ordered g c = sorted-nil g.T.Ord.cmp
