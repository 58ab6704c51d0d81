use Rattle.std.proofs.Common.{◌≤◌, sym, ◌∙◌, rules}
use Rattle.lw_rows.proofs.RowPlaces.{row_of-again}
use Rattle.lw_rows.proofs.StoredRows.{seen_push, seen_last, seen_is_region}
use Rattle.lw_rows.proofs.rows.Rows.push_copy.Goals as goal

pub returns-clause-pushed : goal.returns-clause-pushed
returns-clause-pushed c =
    let some : 1 ≤ c.self.inside.count = search rules in
    seen_push _ _ _ _ _ c.self.view_is _ _ _ c.self.invariant.2 c.push_again.ensures.added
    (row_of-again _ _ _ some c.self.invariant.2 ∙ sym (seen_last _ _ _ _ _ c.self.view_is some))

pub returns-clause-region : goal.returns-clause-region
returns-clause-region c = seen_is_region _ _ _ _ c.self.invariant.0 c.self.invariant.1
