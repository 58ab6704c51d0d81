use Rattle.std.proofs.Common.{true}
use Rattle.lw_s4.proofs.HistoryRanking.{ranked}
use Rattle.lw_s4.proofs.searching.search_s4.Goals as goal

pub search-requires-clause-ranked : goal.search-requires-clause-ranked
search-requires-clause-ranked c = ranked true
