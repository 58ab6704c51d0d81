use Rattle.std.proofs.Common.{◌≡◌, ◌+◌, length}
use Rattle.lw_formula.specs.Joint.{join}
use Rattle.lw_read.specs.Text.{text_of, operand_text}
use Rattle.lw_read.proofs.TextLengths.{join-length, sum-min}
use Rattle.lw_read.proofs.measure.joined.Goals as goal

pub returns-clause-length : goal.returns-clause-length
returns-clause-length c = λ a b left right.
    let r = c.rank.ensures in
    let r' = c.rank-2.ensures in
    let s = c.sign_text.ensures in
    let whole : length (text_of (join c.args.sign a b)) ≡ length (operand_text (c.rank.result + 1) a (text_of a)) + length c.sign_text.result.now + length (operand_text c.rank-2.result b (text_of b)) = rw (r, r', s) (join-length c.args.sign a b) in
    sum-min _ _ _ _ _ _ _ _ _ (c.operand_length.ensures a left) (c.operand_length-2.ensures b right) c.saturating_add.ensures c.saturating_add-2.ensures whole
