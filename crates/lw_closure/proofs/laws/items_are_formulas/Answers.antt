use Rattle.lw_closure.proofs.RulesOverItems.{lifted}
use Rattle.lw_closure.proofs.laws.items_are_formulas.Goals as goal

pub returns : goal.returns
returns c = lifted
