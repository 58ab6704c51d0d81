use Rattle.std.proofs.Common.{◌%◌, ◌∙◌, arith}
use Rattle.lw_rows.proofs.WordBits.{reads_bit}
use Rattle.lw_rows.proofs.StoredRows.{seen_place, seen_bit}
use Rattle.lw_rows.proofs.rows.Rows.test.Goals as goal

pub overflow_mul-row : goal.overflow_mul-row
overflow_mul-row c = omega (arith, seen_place _ _ _ _ _ c.self.view_is c.args.row c.args.bit c.requires.row c.requires.inside c.self.invariant.2)

pub overflow_add-row : goal.overflow_add-row
overflow_add-row c = omega (arith, seen_place _ _ _ _ _ c.self.view_is c.args.row c.args.bit c.requires.row c.requires.inside c.self.invariant.2)

pub index-word-requires : goal.index-word-requires
index-word-requires c = omega (arith, seen_place _ _ _ _ _ c.self.view_is c.args.row c.args.bit c.requires.row c.requires.inside c.self.invariant.2)

pub returns : goal.returns
returns c = reads_bit c.index-word.result.now (c.args.bit % 64) ∙ seen_bit _ _ _ _ _ c.self.view_is c.args.row c.args.bit _ c.requires.row c.requires.inside c.self.invariant.2 c.index-word.ensures
