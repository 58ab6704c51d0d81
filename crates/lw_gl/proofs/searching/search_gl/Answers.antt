use Rattle.lw_gl.proofs.GlRanking.{ranked}
use Rattle.lw_gl.proofs.searching.search_gl.Goals as goal

pub search-requires-clause-ranked : goal.search-requires-clause-ranked
search-requires-clause-ranked c = ranked
