use Rattle.lw_counter.proofs.FragmentFormulas.{open_counters}
use Rattle.lw_counter.proofs.laws.open_items_make_countermodels.Goals as goal

pub returns : goal.returns
returns c = open_counters
