use Rattle.std.proofs.Common.{◌+◌, ◌-◌, ◌/◌, false, arith}
use Rattle.lw_rows.proofs.WordBits.{puts_false}
use Rattle.lw_rows.proofs.StoredRows.{last_fits, last_place, seen_put, seen_is_region}
use Rattle.lw_rows.proofs.rows.Rows.clear.Goals as goal

pub overflow_sub-place : goal.overflow_sub-place
overflow_sub-place c = omega (arith, last_fits _ _ _ _ _ c.self.view_is c.requires.row c.self.invariant.2)

pub index_mut-requires : goal.index_mut-requires
index_mut-requires c = omega (arith, last_place _ _ _ _ _ c.self.view_is c.args.bit c.requires.row c.requires.inside c.self.invariant.2)

pub returns-clause-cleared : goal.returns-clause-cleared
returns-clause-cleared c =
    seen_put _ _ _ _ _ c.self.view_is c.args.bit (c.len.result - c.self.inside.width + c.args.bit / 64) c.index_mut.result.now _ false
    c.requires.row c.requires.inside c.self.invariant.2 (omega arith) c.index_mut.ensures.value (puts_false _ _ (omega arith))

pub returns-clause-region : goal.returns-clause-region
returns-clause-region c = seen_is_region _ _ _ _ c.self.invariant.0 c.self.invariant.1
