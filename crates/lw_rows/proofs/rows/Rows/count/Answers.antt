use Rattle.lw_rows.proofs.StoredRows.{seen_count, seen_region}
use Rattle.lw_rows.proofs.rows.Rows.count.Goals as goal

pub returns-clause-count : goal.returns-clause-count
returns-clause-count c = seen_count _ _ _ _ _ c.self.view_is

pub returns-clause-region : goal.returns-clause-region
returns-clause-region c = seen_region _ _ _ _ _ c.self.view_is c.self.invariant.0 c.self.invariant.1
