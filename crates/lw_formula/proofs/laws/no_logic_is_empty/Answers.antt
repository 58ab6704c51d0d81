use Rattle.lw_formula.proofs.OneWorldModels.{falsum_not_Valid}
use Rattle.lw_formula.proofs.laws.no_logic_is_empty.Goals as goal

pub returns : goal.returns
returns c = falsum_not_Valid
