use Rattle.std.proofs.Common.{◌∙◌, List, [], ◌∷◌, map, ap}
use Rattle.lw_formula.specs.Formula.{Formula}
use Rattle.lw_sets.specs.IdSets.{set_of}
use Rattle.lw_share.proofs.premise.both.Goals as goal

pub returns-clause-sets : goal.returns-clause-sets
returns-clause-sets c = λ (ts : List Formula).
    ap (map (set_of ts)) c.in_ok-vec.ensures.items
    ∙ (λ i. c.in_ok-one.ensures.set ts i ∷ c.in_ok-other.ensures.set ts i ∷ [])
