-- Boards whose label has more items.
use Rattle.std.specs.Prelude.{ℕ, List, [], ◌∷◌, ◌++◌}
use Rattle.lw_sat.specs.declared.board.Board.{Board}
use Rattle.lw_sat.specs.Sets.{adding, lower, top}
use Rattle.lw_sat.specs.SeedPath.{spot_of, Becomes}

-- the label is a branch point now, and a copy of it with these items is under work
abbrev pub Branches : Board → Board → List ℕ → Type 0
Branches old new cs = Becomes old new (record (spot_of old) { set = adding cs (top old.labels); below = lower old.labels ++ top old.labels ∷ [] })
