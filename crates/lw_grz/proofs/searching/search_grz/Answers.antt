use Rattle.lw_grz.proofs.GrzRanking.{ranked}
use Rattle.lw_grz.proofs.searching.search_grz.Goals as goal

pub search-requires-clause-ranked : goal.search-requires-clause-ranked
search-requires-clause-ranked c = ranked
