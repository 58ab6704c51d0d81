use Rattle.lw_s4.proofs.HistoryServed.{serves}
use Rattle.lw_s4.proofs.laws.history_serves.Goals as goal

pub returns : goal.returns
returns c = λ t path X item k table links. serves t table links path X item k
