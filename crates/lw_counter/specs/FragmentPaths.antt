-- Edges of a fragment, paths along them, and the relation that each logic makes of them.
use Rattle.std.specs.Prelude.{◌≡◌, ℕ, ◌⊎◌, Bool, true, false, IsTrue, Some, Contains, ⊤, List, [], ◌∷◌}
use Rattle.lw_formula.specs.declared.logic.Logic.{Logic}
use Rattle.lw_formula.specs.declared.logic.Logic.TheVariants.{K, KT, S4, S5, GL, Grz, K4, KD}
use Rattle.lw_counter.specs.Fragment.{Fragment, world_at}

-- the logic in which links count as edges
abbrev pub has_links : Logic → Bool
has_links K = false
has_links KT = false
has_links S4 = true
has_links S5 = false
has_links GL = false
has_links Grz = false
has_links K4 = true
has_links KD = false

-- an edge leads from a parent to its child, and in S4 and K4 along a link
abbrev pub IsEdge : Logic → Fragment → ℕ → ℕ → Type 0
IsEdge L f w v = ((world_at f v).parent ≡ Some w) ⊎ (IsTrue (has_links L) × Contains f.links (w, v))

-- each step from w through these to v is an edge
abbrev pub IsPath : (ℕ → ℕ → Type 0) → ℕ → List ℕ → ℕ → Type 0
IsPath E w [] v = E w v
IsPath E w (u ∷ us) v = E w u × IsPath E u us v

-- the transitive closure: some path of one edge or more leads from w to v
abbrev pub Reaches : (ℕ → ℕ → Type 0) → ℕ → ℕ → Type 0
Reaches E w v = (us : List ℕ) × IsPath E w us v

-- what makes of edges a relation of the logic's class: loops in the reflexive logics, paths in the transitive ones, in S5 all pairs, in KD a
-- loop wherever no edge leads on
abbrev pub Completed : Logic → (ℕ → ℕ → Type 0) → ℕ → ℕ → Type 0
Completed K E w v = E w v
Completed KT E w v = (w ≡ v) ⊎ E w v
Completed S4 E w v = (w ≡ v) ⊎ Reaches E w v
Completed S5 E w v = ⊤
Completed GL E w v = Reaches E w v
Completed Grz E w v = (w ≡ v) ⊎ Reaches E w v
Completed K4 E w v = Reaches E w v
Completed KD E w v = E w v ⊎ ((w ≡ v) × ((u : ℕ) → ¬ E w u))

-- the relation of the logic's model
abbrev pub IsRelated : Logic → Fragment → ℕ → ℕ → Type 0
IsRelated L f w v = Completed L (IsEdge L f) w v
