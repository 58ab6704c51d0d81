use Rattle.lw_rows.proofs.StoredRows.{seen_region, seen_is_region}
use Rattle.lw_rows.proofs.rows.Rows.reserve.Goals as goal

pub returns-then-n-self-clause-region : goal.returns-then-n-self-clause-region
returns-then-n-self-clause-region c = seen_region _ _ _ _ _ c.self.view_is c.self.invariant.0 c.self.invariant.1

pub returns-in_err-more-clause-region : goal.returns-in_err-more-clause-region
returns-in_err-more-clause-region c = seen_region _ _ _ _ _ c.self.view_is c.self.invariant.0 c.self.invariant.1

pub returns-in_err-try_reserve-clause-region : goal.returns-in_err-try_reserve-clause-region
returns-in_err-try_reserve-clause-region c = seen_is_region _ _ _ _ c.self.invariant.0 c.self.invariant.1

pub returns-clause-region : goal.returns-clause-region
returns-clause-region c = seen_is_region _ _ _ _ c.self.invariant.0 c.self.invariant.1
