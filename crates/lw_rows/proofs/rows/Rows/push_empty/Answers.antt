use Rattle.std.proofs.Common.{ap, ◌∙◌}
use Rattle.lw_rows.specs.RowStack.{Region, empty_row}
use Rattle.lw_rows.proofs.RowPlaces.{row_of-zeros}
use Rattle.lw_rows.proofs.StoredRows.{seen_push, seen_is_region}
use Rattle.lw_rows.proofs.rows.Rows.push_empty.Goals as goal

pub returns-clause-pushed : goal.returns-clause-pushed
returns-clause-pushed c =
    seen_push _ _ _ _ _ c.self.view_is _ _ _ c.self.invariant.2 c.push_zeros.ensures.added
    (row_of-zeros _ _ _ c.self.invariant.2 ∙ ap (λ (r : Region). empty_row r.width) c.self.view_is)

pub returns-clause-region : goal.returns-clause-region
returns-clause-region c = seen_is_region _ _ _ _ c.self.invariant.0 c.self.invariant.1
