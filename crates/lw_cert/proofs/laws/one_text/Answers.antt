use Rattle.lw_cert.proofs.OneSheet.{one-text}
use Rattle.lw_cert.proofs.laws.one_text.Goals as goal

pub returns : goal.returns
returns c = one-text
