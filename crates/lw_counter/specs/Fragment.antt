-- Fragments: the worlds that a search has found, each with its label and its place in the tree of worlds.
use Rattle.std.specs.Prelude.{◌≡◌, ℕ, ◌<◌, nat_eq, nat_lt, Bool, ◌&&◌, Option, Some, None, All, List, [], ◌∷◌, ◌++◌, length, take}
use Rattle.std.specs.List.{list_any, filter, slice_index_or}
use Rattle.lw_formula.specs.Formula.{Formula}
use Rattle.lw_formula.specs.Signed.{SignedSet}
use Rattle.lw_proof.specs.System.{Set, same_signed}
use Rattle.lw_closure.specs.Table.{Table, item_count, signed_of}

-- a world: the items of its label, and the world whose child it is, if it is one
pub record World : Type 0 where
  pub label : List ℕ
  pub parent : Option ℕ

-- worlds, by number from 0, and links from one to another
pub record Fragment : Type 0 where
  pub worlds : List World
  pub links : List (ℕ × ℕ)

-- world w, where what is no world has no label and no parent
abbrev pub world_at : Fragment → ℕ → World
world_at f w = slice_index_or f.worlds w (record { label = []; parent = None })

-- each world stands behind its parent, and links join worlds
pub record IsFormed (f : Fragment) : Type 0 where
  pub ordered : (w u : ℕ) → (world_at f w).parent ≡ Some u → u < w
  pub linked : All (λ l. (l.0 < length f.worlds) × (l.1 < length f.worlds)) f.links

-- the fragment with one world more, behind the others
abbrev pub with_world : Fragment → Option ℕ → List ℕ → Fragment
with_world f parent label = record f { worlds = f.worlds ++ (record { label = label; parent = parent }) ∷ [] }

-- the fragment with one link more
abbrev pub with_link : Fragment → ℕ → ℕ → Fragment
with_link f from to = record f { links = f.links ++ (from, to) ∷ [] }

-- whether both ends of the link are below n
abbrev pub is_below : ℕ → ℕ × ℕ → Bool
is_below n l = nat_lt l.0 n && nat_lt l.1 n

-- the first n worlds and the links between them
abbrev pub cut_to : ℕ → Fragment → Fragment
cut_to n f = record { worlds = take n f.worlds; links = filter (is_below n) f.links }

-- the labels as sets of items
abbrev pub items_of : Fragment → ℕ → Set ℕ
items_of f w i = list_any (λ j. nat_eq j i) (world_at f w).label

-- the labels as sets of the items' signed formulas, by a closure's table and the formulas of a pool
abbrev pub formulas_of : List Formula → Table → Fragment → ℕ → SignedSet
formulas_of ts t f w s = list_any (λ i. same_signed (signed_of ts t i) s) (world_at f w).label

-- the labels hold items of the closure alone
abbrev pub HasItemsOf : Table → Fragment → Type 0
HasItemsOf t f = (w : ℕ) → All (λ i. i < item_count t) (world_at f w).label
