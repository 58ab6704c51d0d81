use Rattle.lw_value.proofs.OneText.{one_value_text}
use Rattle.lw_value.proofs.laws.one_text.Goals as goal

pub returns : goal.returns
returns c = one_value_text
