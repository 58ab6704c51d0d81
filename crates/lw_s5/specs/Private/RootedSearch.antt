-- The search of S5: a root, whose label has one of the two items of each modal formula of its children, and the children of the root (cuts make
-- a root of this kind; Goré, Tableau methods for modal and temporal logics).
use Rattle.std.specs.Prelude.{◌≡◌, ◌≢◌, ℕ, ◌+◌, ◌*◌, ◌<◌, ◌≤◌, ◌⊎◌, ◌||◌, Bool, false, IsTrue, Some, None, [], length, ⊤}
use Rattle.lw_formula.specs.declared.parts.Parts.TheVariants.{Pi}
use Rattle.lw_proof.specs.System.{Set, IsWithin}
use Rattle.lw_proof.specs.Derivation.{is_modal_part, kept}
use Rattle.lw_proof.specs.Lean.{steps}
use Rattle.lw_closure.specs.Table.{Table, entry_at, flip_item}
use Rattle.lw_closure.specs.Items.{items}
use Rattle.lw_closure.specs.Unclosed.{IsUnclosedLabel}
use Rattle.lw_counter.specs.Fragment.{Fragment, world_at, items_of, HasItemsOf}
use Rattle.lw_sat.specs.declared.saturation.Saturation.{Saturation}
use Rattle.lw_sat.specs.Closing.{Closes}
use Rattle.lw_sat.specs.Course.{label, waits}
use Rattle.lw_sat.specs.SeedPath.{IsWide}
use Rattle.lw_sat.specs.Sets.{IsOfItems}
use Rattle.lw_search.specs.Step.{count_below, is_asker}
use Rattle.lw_s5.specs.declared.obstacle.Obstacle.{Obstacle}
use Rattle.lw_s5.specs.declared.obstacle.Obstacle.TheVariants.{Closed, Undecided, Memory}

-- an unclosed label of the table's items waits
pub record HasLabel (t : Table) (s : Saturation) : Type 0 where
  pub waiting : IsTrue (waits s)
  pub wide : IsWide t s.board
  pub items : IsOfItems t (label s)
  pub unclosed : IsUnclosedLabel t (label s)

-- each formula is modal under both signs or under neither
abbrev pub IsModalAlike : Table → Type 0
IsModalAlike t = (f : ℕ) → f < length t.forms → is_modal_part (entry_at t (2 * f)).parts ≡ is_modal_part (entry_at t (2 * f + 1)).parts

-- whether the set has one of the formula's two items
abbrev pub decides : Set ℕ → ℕ → Bool
decides X f = X (2 * f) || X (2 * f + 1)

-- the formula is modal, and the set has neither of its items
pub record IsUndecided (t : Table) (X : Set ℕ) (f : ℕ) : Type 0 where
  pub below : f < length t.forms
  pub modal : IsTrue (is_modal_part (entry_at t (2 * f)).parts)
  pub neither : decides X f ≡ false

-- of each modal item of X the set R has the item itself or the one under the other sign
abbrev pub IsDecidedBy : Table → Set ℕ → Set ℕ → Type 0
IsDecidedBy t R X = (i : ℕ) → IsTrue (is_modal_part (entry_at t i).parts) → IsTrue (X i) → IsTrue (R i) ⊎ IsTrue (R (flip_item i))

-- X may be the label of a child of the root, whose label is R
pub record IsChild (t : Table) (R X : Set ℕ) : Type 0 where
  pub unclosed : IsUnclosedLabel t X
  pub keeps : IsWithin (kept (items t) t.logic R) X
  pub decided : IsDecidedBy t R X

-- some world of the fragment has the item
abbrev pub IsInWorld : Fragment → ℕ → Type 0
IsInWorld f c = (w : ℕ) × (w < length f.worlds) × IsTrue (items_of f w c)

-- where the item is a π of R, some world of the fragment has its component
abbrev pub IsServedIn : Table → Set ℕ → Fragment → ℕ → Type 0
IsServedIn t R f i = (c : ℕ) → IsTrue (R i) → (entry_at t i).parts ≡ Pi c → IsInWorld f c

-- the fragment is the root with the label R and children of it, no more than the π below n ask for, and each π of R below n has a world
-- with its component
pub record Surrounds (t : Table) (R : Set ℕ) (n : ℕ) (f : Fragment) : Type 0 where
  pub some : 1 ≤ length f.worlds
  pub links : f.links ≡ []
  pub items : HasItemsOf t f
  pub top : (world_at f 0).parent ≡ None
  pub root : items_of f 0 ≡ R
  pub near : (w : ℕ) → w < length f.worlds → w ≢ 0 → (world_at f w).parent ≡ Some 0
  pub children : (w : ℕ) → w < length f.worlds → w ≢ 0 → IsChild t R (items_of f w)
  pub few : length f.worlds ≤ 1 + count_below (is_asker t) n
  pub served : (i c : ℕ) → i < n → IsTrue (R i) → (entry_at t i).parts ≡ Pi c → IsInWorld f c

-- what keeps the label R from being a root: a proof that closes it with one Step at most on a path, or a modal formula of which it has neither item
abbrev pub IsObstacle : Table → Set ℕ → Obstacle → Type 0
IsObstacle t R (Closed p) = Closes t R p × (steps p ≤ 1)
IsObstacle t R (Undecided f) = IsUndecided t R f
IsObstacle t R Memory = ⊤
