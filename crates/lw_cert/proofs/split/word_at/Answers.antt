use Rattle.lw_cert.proofs.LinesAndWords.{is-word}
use Rattle.lw_cert.proofs.split.word_at.Goals as goal

pub returns : goal.returns
returns c = is-word c.args.bytes.now _ _ c.length_before.result c.length_before.ensures.count c.split_at.ensures.front c.split_at.ensures.back
