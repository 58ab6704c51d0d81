use Rattle.lw_cert.proofs.LinesAndWords.{first-line-some, first-line-none}
use Rattle.lw_cert.proofs.split.first_line.Goals as goal

pub returns-then-end-text : goal.returns-then-end-text
returns-then-end-text c = first-line-some c.args.text.now c.length_before-end.result c.length_before-end.ensures.count c.if-end-text.true

pub returns-else-end-text : goal.returns-else-end-text
returns-else-end-text c = first-line-none c.args.text.now c.length_before-end.result c.length_before-end.ensures.count c.if-end-text.false
