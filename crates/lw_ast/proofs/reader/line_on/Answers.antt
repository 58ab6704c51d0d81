use Rattle.lw_ast.proofs.LinesAhead.{line_ahead}
use Rattle.lw_ast.proofs.reader.line_on.Goals as goal

pub returns : goal.returns
returns c =
    let ahead = line_ahead c.args.text.now c.args.read c.args.at c.requires.order in
    let feeds = c.feed_count.ensures in
    let line = c.requires.line in
    cc
