use Rattle.lw_k.proofs.KRanking.{ranked}
use Rattle.lw_k.proofs.searching.search_by.Goals as goal

pub search-requires-clause-ranked : goal.search-requires-clause-ranked
search-requires-clause-ranked g c = ranked _ _
