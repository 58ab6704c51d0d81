-- The levels of a search: the labels on the path from the goal to the label under work, each a saturation of its own seed.
use Rattle.std.specs.Prelude.{◌≡◌, ℕ, zero, suc, ◌+◌, ◌-◌, ◌*◌, ◌<◌, ◌≤◌, Bool, false, IsTrue, ⊤, None, List, [], ◌∷◌, length}
use Rattle.lw_formula.specs.declared.parts.Parts.TheVariants.{Pi}
use Rattle.lw_pool.specs.declared.id.SignedId.{SignedId}
use Rattle.lw_model.specs.Bounds.{tree_size}
use Rattle.lw_proof.specs.System.{Set, IsWithin}
use Rattle.lw_proof.specs.Tree.{Tree}
use Rattle.lw_proof.specs.Lean.{steps}
use Rattle.lw_proof.specs.Derivation.{has_cut, has_serial, is_nu}
use Rattle.lw_closure.specs.Table.{Table, entry_at, item_count, IsTable}
use Rattle.lw_closure.specs.Unclosed.{IsUnclosedLabel}
use Rattle.lw_counter.specs.Fragment.{Fragment, cut_to}
use Rattle.lw_sat.specs.Moves.{Survives}
use Rattle.lw_sat.specs.SeedPath.{root, room_below, spot_of, most_steps, IsClosedAt, IsWide}
use Rattle.lw_sat.specs.Saturated.{room, IsAt}
use Rattle.lw_sat.specs.Sets.{nothing, top, weight, IsOfItems}
use Rattle.lw_search.specs.declared.level.Level.{Level}
use Rattle.lw_search.specs.declared.level.Search.{Search}
use Rattle.lw_search.specs.Ranked.{Past, LeadsTo, AsksFor}
use Rattle.lw_search.specs.Private.SearchWorlds.{last_world, IsSound}
use Rattle.lw_search.specs.Private.StepAskers.{may_ask}
use Rattle.lw_search.specs.Step.{askers, count_below, is_asker, seed}

-- what a search is after: to close the seed, or to find it a world, in so many Steps, one above the other. The test tells of a label to which a
-- path leads whether so many are enough
pub record Aim : Type 0 where
  pub rank : List Past → ℕ → Set ℕ → Bool
  pub seed : Set ℕ
  pub bound : ℕ

-- the test does what is asked of a ranking, for one table, which has an asker wherever a ν may ask
pub record Guides (t : Table) (rank : List Past → ℕ → Set ℕ → Bool) : Type 0 where
  pub table : IsTable t
  pub uncut : has_cut t.logic ≡ false
  pub some : IsTrue (has_serial t.logic) → (i : ℕ) → i < item_count t → IsTrue (is_nu (entry_at t i).parts) → 0 < askers t
  pub goes_on : (path : List Past) (n : ℕ) → Survives t (rank path n)
  pub falls :
      (path : List Past) (n : ℕ) (X : Set ℕ) (item c w : ℕ) → IsTrue (rank path n X) → AsksFor t path X item c →
      (0 < n) × ((entry_at t item).parts ≡ Pi c → IsTrue (is_asker t item)) × IsTrue (rank ((record { world = w; label = X; item = item }) ∷ path) (n - 1) (seed t X item c))

-- where a level stands: its seed, the number of Steps that are left, the path to it, and the fragment as it was when the level began
pub record Place : Type 0 where
  pub seed : Set ℕ
  pub left : ℕ
  pub path : List Past
  pub fragment : Fragment

-- the place of the first level
abbrev pub start : Aim → Place
start aim = record { seed = aim.seed; left = aim.bound; path = []; fragment = record { worlds = []; links = [] } }

-- where no step leads to the label Y, it has X
abbrev pub Begins : Set ℕ → List Past → Set ℕ → Type 0
Begins X [] Y = IsWithin X Y
Begins X (p ∷ path) Y = ⊤

-- the place is one of the search: its path leads to its seed, and its fragment is open but for what waits on the path
pub record IsPlace (t : Table) (aim : Aim) (a : Place) : Type 0 where
  pub items : IsOfItems t a.seed
  pub leads : LeadsTo t a.path a.seed
  pub left : a.left + length a.path ≡ aim.bound
  pub begins : Begins aim.seed a.path a.seed
  pub sound : IsSound t aim.bound aim.seed a.path a.fragment

-- the label of a level
abbrev pub label : Level → Set ℕ
label l = top l.board.labels

-- the level on the path, where the path goes on from it
abbrev pub past : Level → Past
past l = record { world = l.world; label = label l; item = l.item }

-- how many worlds a step makes at most, where so many Steps are left
abbrev pub child_size : ℕ → ℕ → ℕ
child_size m zero = 0
child_size m (suc n) = tree_size m n

-- the level at the place a has an unclosed label, which is that of its world, and the items before its own are served
pub record Serves (t : Table) (aim : Aim) (a : Place) (l : Level) (f : Fragment) : Type 0 where
  pub place : IsPlace t aim a
  pub at : IsAt t a.seed (aim.rank a.path a.left) l.frames.items l.board
  pub steps : most_steps l.frames.items ≤ a.left
  pub parent : l.parent ≡ last_world a.path
  pub inside : l.item ≤ item_count t
  pub unclosed : IsUnclosedLabel t (label l)
  pub world : l.world ≡ length a.fragment.worlds
  pub back : cut_to l.world f ≡ a.fragment
  pub sound : IsSound t aim.bound aim.seed (past l ∷ a.path) f
  pub few : length f.worlds ≤ l.world + 1 + count_below (may_ask t (label l)) l.item * child_size (askers t) a.left

-- the place to which the step on the level's item with the component c leads
abbrev pub above : Table → Place → Level → ℕ → Fragment → Place
above t a l c f = record { seed = seed t (label l) l.item c; left = a.left - 1; path = past l ∷ a.path; fragment = f }

-- the level at the place a waits for what comes of the step on its item, at the place b
pub record Waits (t : Table) (aim : Aim) (a : Place) (l : Level) (b : Place) : Type 0 where
  pub serves : Serves t aim a l b.fragment
  pub inner : ℕ
  pub asks : AsksFor t a.path (label l) l.item inner
  pub may : IsTrue (may_ask t (label l) l.item)
  pub next : b ≡ above t a l inner b.fragment

-- the levels wait one on the other, from the place a to the place c
abbrev pub Nested : Table → Aim → Place → List Level → Place → Type 0
Nested t aim a [] c = a ≡ c
Nested t aim a (l ∷ ls) c = (b : Place) × Waits t aim a l b × Nested t aim b ls c

-- nothing is done: the one board has the seed X, no level waits and no world is found
pub record IsBegun (t : Table) (X : Set ℕ) (s : Search) : Type 0 where
  pub below : s.below.items ≡ []
  pub frames : s.level.frames.items ≡ []
  pub wide : IsWide t s.level.board
  pub spot : spot_of s.level.board ≡ root X
  pub parent : s.level.parent ≡ None
  pub fragment : s.fragment ≡ record { worlds = []; links = [] }

-- the levels wait one on the other up to the last level's place, and the fragment f is as it was when that level began
pub record Stands (t : Table) (aim : Aim) (ls : List Level) (f : Fragment) : Type 0 where
  pub guides : Guides t aim.rank
  pub place : Place
  pub nested : Nested t aim (start aim) ls place
  pub is_place : IsPlace t aim place
  pub fragment : f ≡ place.fragment

-- the last level's label is under work, and its world isn't in the fragment yet
pub record IsUnderWork (t : Table) (aim : Aim) (s : Search) : Type 0 where
  pub stands : Stands t aim s.below.items s.fragment
  pub at : IsAt t stands.place.seed (aim.rank stands.place.path stands.place.left) s.level.frames.items s.level.board
  pub steps : most_steps s.level.frames.items ≤ stands.place.left
  pub parent : s.level.parent ≡ last_world stands.place.path

-- the last level's label is unclosed, and its items are served one after another
pub record IsServing (t : Table) (aim : Aim) (s : Search) : Type 0 where
  pub guides : Guides t aim.rank
  pub place : Place
  pub nested : Nested t aim (start aim) s.below.items place
  pub serves : Serves t aim place s.level s.fragment

-- the last level's seed is closed, by the items that its board has
pub record IsFallen (t : Table) (aim : Aim) (s : Search) (p : Tree SignedId) : Type 0 where
  pub stands : Stands t aim s.below.items s.fragment
  pub wide : IsWide t s.level.board
  pub closed : IsClosedAt t (root stands.place.seed) s.level.board p
  pub steps : steps p ≤ stands.place.left

-- the most that is left to do at a label of a closure with so many items
abbrev pub most_room : ℕ → ℕ
most_room n = 2 * weight nothing (n + 64)

-- what a unit of a label's room counts for where so many Steps are left: more than all that its steps may lead to
abbrev pub unit : ℕ → ℕ → ℕ
unit n zero = 1
unit n (suc k) = 1 + n * (most_room n * unit n k)

-- what one step may lead to
abbrev pub child_room : ℕ → ℕ → ℕ
child_room n zero = 0
child_room n (suc k) = most_room n * unit n k

-- what is left to do at a level that waits, but for what the step on its item leads to
abbrev pub waiting_room : ℕ → ℕ → Level → ℕ
waiting_room n k l = room_below l.board.bits (spot_of l.board) * unit n k + (n - (l.item + 1)) * child_room n k

-- the same at all levels that wait
abbrev pub held_room : ℕ → ℕ → List Level → ℕ
held_room n k [] = 0
held_room n k (l ∷ ls) = waiting_room n k l + held_room n (k - 1) ls

-- what is left to do where a label is under work
abbrev pub work_room : Table → ℕ → Search → ℕ
work_room t k s = held_room (item_count t) k s.below.items + room s.level.board * unit (item_count t) (k - length s.below.items)

-- what is left to do where the items of a label are served
abbrev pub serving_room : Table → ℕ → Search → ℕ
serving_room t k s =
    let left = k - length s.below.items in
    held_room (item_count t) k s.below.items + (room_below s.level.board.bits (spot_of s.level.board) * unit (item_count t) left + (item_count t - s.level.item) * child_room (item_count t) left)

-- what is left to do below a level whose seed is closed
abbrev pub fallen_room : Table → ℕ → Search → ℕ
fallen_room t k s = held_room (item_count t) k s.below.items
