use Rattle.lw_rows.proofs.StoredRows.{seen_count}
use Rattle.lw_rows.proofs.rows.Rows.mark.Goals as goal

pub returns : goal.returns
returns c = seen_count _ _ _ _ _ c.self.view_is
