-- Why a search in GL ends: a step goes to a label that lacks fewer ν.
use Rattle.std.specs.Prelude.{nat_le}
use Rattle.lw_search.specs.Private.LabelLack.{nus_lacked}
use Rattle.lw_search.specs.Ranked.{Ranking}

-- so many Steps are enough above a label as it lacks ν
abbrev pub by_lacking : Ranking
by_lacking ts t path n X = nat_le (nus_lacked t X) n
