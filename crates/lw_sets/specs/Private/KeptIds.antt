-- What a step keeps, by the components of each member.
use Rattle.std.specs.Prelude.{List, [], ◌∷◌}
use Rattle.lw_formula.specs.declared.logic.Logic.{Logic}
use Rattle.lw_formula.specs.declared.logic.Logic.TheVariants.{K, KT, S4, S5, GL, Grz, K4, KD}
use Rattle.lw_formula.specs.declared.parts.Parts.{Parts}
use Rattle.lw_formula.specs.declared.parts.Parts.TheVariants.{Nu, Pi}

-- what a step keeps on account of one member of a set, which comes to p
abbrev pub kept_by : {I : Type 0} → Logic → I → Parts I → List I
kept_by K s (Nu c) = c ∷ []
kept_by K s _ = []
kept_by KT s (Nu c) = c ∷ []
kept_by KT s _ = []
kept_by S4 s (Nu c) = s ∷ []
kept_by S4 s _ = []
kept_by S5 s (Nu c) = s ∷ []
kept_by S5 s (Pi c) = s ∷ []
kept_by S5 s _ = []
kept_by GL s (Nu c) = s ∷ c ∷ []
kept_by GL s _ = []
kept_by Grz s (Nu c) = s ∷ []
kept_by Grz s _ = []
kept_by K4 s (Nu c) = s ∷ c ∷ []
kept_by K4 s _ = []
kept_by KD s (Nu c) = c ∷ []
kept_by KD s _ = []
