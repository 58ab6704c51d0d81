use Rattle.lw_counter.proofs.FragmentFormulas.{open_lifted}
use Rattle.lw_counter.proofs.laws.open_items_are_open_formulas.Goals as goal

pub returns : goal.returns
returns c = open_lifted
