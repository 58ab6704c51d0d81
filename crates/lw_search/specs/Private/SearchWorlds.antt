-- What is so of the worlds that a search has found so far.
use Rattle.std.specs.Prelude.{◌≡◌, ℕ, ◌+◌, ◌<◌, ◌≤◌, ◌⊎◌, IsTrue, ⊤, Option, Some, None, List, [], ◌∷◌, length}
use Rattle.lw_formula.specs.declared.logic.Logic.{Logic}
use Rattle.lw_formula.specs.declared.parts.Parts.TheVariants.{Pi}
use Rattle.lw_proof.specs.System.{Set, IsWithin}
use Rattle.lw_proof.specs.Derivation.{has_serial, is_nu, is_pi, kept}
use Rattle.lw_closure.specs.Table.{Table, entry_at}
use Rattle.lw_closure.specs.Items.{items}
use Rattle.lw_closure.specs.Unclosed.{IsUnclosedLabel}
use Rattle.lw_counter.specs.Fragment.{Fragment, world_at, items_of, IsFormed, HasItemsOf}
use Rattle.lw_counter.specs.Open.{HasWitness}
use Rattle.lw_counter.specs.FragmentPaths.{IsEdge}
use Rattle.lw_search.specs.Explored.{HasHeights}
use Rattle.lw_search.specs.Ranked.{Past}

-- the item s of the world w waits: the path goes on from the world by this item or by one before it
abbrev pub IsWaiting : List Past → ℕ → ℕ → Type 0
IsWaiting [] w s = ⊥
IsWaiting (p ∷ path) w s = ((p.world ≡ w) × (p.item ≤ s)) ⊎ IsWaiting path w s

-- an edge leads on from the world
abbrev pub LeadsOn : Logic → Fragment → ℕ → Type 0
LeadsOn L f w = (v : ℕ) × IsEdge L f w v

-- the ν s of the world w waits, or a π of the world does
abbrev pub NuWaits : Table → List Past → Fragment → ℕ → ℕ → Type 0
NuWaits t path f w s = IsWaiting path w s ⊎ ((i : ℕ) × IsTrue (items_of f w i) × IsTrue (is_pi (entry_at t i).parts) × IsWaiting path w i)

-- the last world of the path
abbrev pub last_world : List Past → Option ℕ
last_world [] = None
last_world (p ∷ path) = Some p.world

-- the worlds of the path are in the fragment, each with its label and as a child of the one before, and their heights fall by one from n on
abbrev pub IsOnWay : ℕ → (ℕ → ℕ) → Fragment → List Past → Type 0
IsOnWay n height f [] = ⊤
IsOnWay n height f (p ∷ path) =
    (p.world < length f.worlds) × (items_of f p.world ≡ p.label) × ((world_at f p.world).parent ≡ last_world path) × (height p.world + length path ≡ n)
    × IsOnWay n height f path

-- the fragment is open but for what waits on the path, and the label of world 0 has the seed X
pub record IsSound (t : Table) (n : ℕ) (X : Set ℕ) (path : List Past) (f : Fragment) : Type 0 where
  pub formed : IsFormed f
  pub inside : HasItemsOf t f
  pub unclosed : (w : ℕ) → w < length f.worlds → IsUnclosedLabel t (items_of f w)
  pub flows : (w v : ℕ) → IsEdge t.logic f w v → IsWithin (kept (items t) t.logic (items_of f w)) (items_of f v)
  pub served : (w s c : ℕ) → w < length f.worlds → IsTrue (items_of f w s) → (entry_at t s).parts ≡ Pi c → HasWitness t.logic f (items_of f) w c ⊎ IsWaiting path w s
  pub serial :
      IsTrue (has_serial t.logic) → (w s : ℕ) → w < length f.worlds → IsTrue (is_nu (entry_at t s).parts) → IsTrue (items_of f w s) →
      LeadsOn t.logic f w ⊎ NuWaits t path f w s
  pub root : 0 < length f.worlds → IsWithin X (items_of f 0)
  pub heights : HasHeights n f
  pub way : IsOnWay n heights.height f path
