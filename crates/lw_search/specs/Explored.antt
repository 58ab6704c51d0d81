-- What a search leaves behind where it finds no proof.
use Rattle.std.specs.Prelude.{◌≡◌, ℕ, ◌<◌, ◌≤◌, Some, length}
use Rattle.lw_model.specs.Bounds.{tree_size}
use Rattle.lw_proof.specs.System.{Set, IsWithin}
use Rattle.lw_closure.specs.Table.{Table}
use Rattle.lw_closure.specs.Items.{items}
use Rattle.lw_counter.specs.Fragment.{Fragment, world_at, items_of, HasItemsOf}
use Rattle.lw_counter.specs.Open.{IsOpen}
use Rattle.lw_search.specs.Step.{askers}

-- each world of the fragment has a height, at most n, and a child a smaller one than its parent
pub record HasHeights (n : ℕ) (f : Fragment) : Type 0 where
  pub height : ℕ → ℕ
  pub low : (w : ℕ) → w < length f.worlds → height w ≤ n
  pub falls : (w v : ℕ) → v < length f.worlds → (world_at f v).parent ≡ Some w → height v < height w

-- the fragment is open, the label of world 0 has the seed X, and neither its worlds nor its heights are more than n steps make
pub record IsExplored (t : Table) (n : ℕ) (X : Set ℕ) (f : Fragment) : Type 0 where
  pub is_open : IsOpen (items t) t.logic f (items_of f)
  pub items : HasItemsOf t f
  pub root : IsWithin X (items_of f 0)
  pub few : length f.worlds ≤ tree_size (askers t) n
  pub heights : HasHeights n f
