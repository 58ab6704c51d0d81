use Rattle.std.proofs.Common.{false}
use Rattle.lw_s4.proofs.HistoryRanking.{ranked}
use Rattle.lw_s4.proofs.searching.search_k4.Goals as goal

pub search-requires-clause-ranked : goal.search-requires-clause-ranked
search-requires-clause-ranked c = ranked false
