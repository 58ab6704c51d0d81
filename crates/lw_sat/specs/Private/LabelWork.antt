-- What is left to do at a label.
use Rattle.std.specs.Prelude.{◌≡◌, ℕ, ◌<◌, Bool, true, false, IsTrue, List, [], ◌∷◌, ⊤}
use Rattle.lw_proof.specs.declared.rule.Rule.{Rule}
use Rattle.lw_proof.specs.System.{Set}
use Rattle.lw_proof.specs.Tree.{node, none}
use Rattle.lw_proof.specs.Lean.{own_steps, Grows}
use Rattle.lw_closure.specs.Table.{Table, item_count, entry_at, flip_item}
use Rattle.lw_closure.specs.Items.{items, ItemDerives}
use Rattle.lw_closure.specs.Unclosed.{IsServed}
use Rattle.lw_sat.specs.declared.work.Work.{Work}
use Rattle.lw_sat.specs.declared.work.Work.TheVariants.{Leaf, Only, Both, Nothing}
use Rattle.lw_sat.specs.Sets.{AreBelow, HasEach}
use Rattle.lw_sat.specs.Moves.{listed, IsSide, Moves}

-- a rule without premises closes the set by these of its items
pub record IsLeaf (t : Table) (X : Set ℕ) (rule : Rule) (item : ℕ) (used : List ℕ) : Type 0 where
  pub below : item < item_count t
  pub inside : AreBelow (item_count t) used
  pub there : HasEach used X
  pub closes : (U : Set ℕ) → HasEach used U → ItemDerives t U (node rule item none)
  pub grows : Grows (items t) t.logic X (node rule item none)
  pub still : own_steps rule ≡ 0

-- the work is one that the set asks for: a rule that closes it, or one whose premises have new components of an item in it
abbrev pub IsWork : Table → Set ℕ → Work → Type 0
IsWork t X (Leaf rule item used) = IsLeaf t X rule item (listed used)
IsWork t X (Only rule item s) = Moves t X rule item (listed s ∷ []) × IsTrue (X item) × IsSide t.logic (entry_at t item).parts (listed s)
IsWork t X (Both item p q) =
    Moves t X Rule.Two item (listed p ∷ listed q ∷ []) × IsTrue (X item) × IsSide t.logic (entry_at t item).parts (listed p)
    × IsSide t.logic (entry_at t item).parts (listed q)
IsWork t X Nothing = ⊤

abbrev pub is_nothing : Work → Bool
is_nothing Nothing = true
is_nothing _ = false

-- nothing is left to do about the item in the set
pub record IsQuiet (t : Table) (X : Set ℕ) (item : ℕ) : Type 0 where
  pub consistent : X (flip_item item) ≡ false
  pub possible : (entry_at t item).absurd ≡ false
  pub served : IsServed t.logic X (entry_at t item).parts
