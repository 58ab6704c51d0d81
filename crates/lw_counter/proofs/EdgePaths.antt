-- Paths of edges, and what edges of a fragment join.
use Rattle.std.proofs.Common.{◌≡◌, ℕ, ◌<◌, Some, None, List, [], ◌∷◌, ◌++◌, length, inl, inr, ap, arith}
use Rattle.std.proofs.lemmas.List.{get_or_past}
use Rattle.std.proofs.lemmas.Bool.{cases_lt}
use Rattle.std.proofs.lemmas.List.Elements.{All-contains}
use Rattle.lw_formula.specs.declared.logic.Logic.{Logic}
use Rattle.lw_counter.specs.Fragment.{World, Fragment, IsFormed, world_at}
use Rattle.lw_counter.specs.FragmentPaths.{IsEdge, IsPath, Reaches}

path_join : (E : ℕ → ℕ → Type 0) (w : ℕ) (us : List ℕ) (u : ℕ) (vs : List ℕ) (v : ℕ) → IsPath E w us u → IsPath E u vs v → IsPath E w (us ++ u ∷ vs) v
path_join E w [] u vs v p q = (p, q)
path_join E w (x ∷ us) u vs v p q = (p.0, path_join E x us u vs v p.1 q)

-- one path after another
pub reaches_join : (E : ℕ → ℕ → Type 0) (w u v : ℕ) → Reaches E w u → Reaches E u v → Reaches E w v
reaches_join E w u v p q = (p.0 ++ u ∷ q.0, path_join E w p.0 u q.0 v p.1 q.1)

path_within : (E Q : ℕ → ℕ → Type 0) → ((w v : ℕ) → E w v → Q w v) → ((w u v : ℕ) → Q w u → Q u v → Q w v) → (w : ℕ) (us : List ℕ) (v : ℕ) → IsPath E w us v → Q w v
path_within E Q steps joins w [] v p = steps w v p
path_within E Q steps joins w (u ∷ us) v p = joins w u v (steps w u p.0) (path_within E Q steps joins u us v p.1)

-- a transitive relation that has each edge has each path
pub reaches_within : (E Q : ℕ → ℕ → Type 0) → ((w v : ℕ) → E w v → Q w v) → ((w u v : ℕ) → Q w u → Q u v → Q w v) → (w v : ℕ) → Reaches E w v → Q w v
reaches_within E Q steps joins w v p = path_within E Q steps joins w p.0 v p.1

-- what has a parent is a world
pub child_within : (f : Fragment) (w u : ℕ) → (world_at f w).parent ≡ Some u → w < length f.worlds
child_within f w u e = elim (cases_lt w (length f.worlds)) [
  | inl l ↦ l
  | inr past ↦ (let none : (world_at f w).parent ≡ None = ap (λ (x : World). x.parent) (get_or_past f.worlds w (record { label = []; parent = None }) past) in cc)
]

-- an edge joins worlds
pub edge_within : (L : Logic) (f : Fragment) → IsFormed f → (w v : ℕ) → IsEdge L f w v → (w < length f.worlds) × (v < length f.worlds)
edge_within L f formed w v (inl e) =
    let l : v < length f.worlds = child_within f v w e in
    let up : w < v = formed.ordered v w e in
    (omega arith, l)
edge_within L f formed w v (inr link) = All-contains (λ l. (l.0 < length f.worlds) × (l.1 < length f.worlds)) f.links (w, v) formed.linked link.1
