-- Proofs whose principals are items, and which items they use.
use Rattle.std.specs.Prelude.{◌≡◌, ℕ, ◌<◌}
use Rattle.lw_pool.specs.declared.id.SignedId.{SignedId}
use Rattle.lw_proof.specs.System.{Set, IsWithin}
use Rattle.lw_proof.specs.Tree.{Tree, map_tree, EachPrincipal}
use Rattle.lw_proof.specs.Lean.{Grows}
use Rattle.lw_closure.specs.Table.{Table, item_count, item_at}
use Rattle.lw_closure.specs.Items.{items, ItemDerives}

-- the proof, read with the numbers of its principals, closes the set of items, and each premise of a rule other than Step and Serial has something new
pub record Closes (t : Table) (X : Set ℕ) (p : Tree SignedId) : Type 0 where
  pub tree : Tree ℕ
  pub named : map_tree (item_at t) tree ≡ p
  pub principals : EachPrincipal (λ i. i < item_count t) tree
  pub closes : ItemDerives t X tree
  pub grows : Grows (items t) t.logic X tree

-- the proof does so by the items of U alone: it closes U, and seen from X it has something new in each premise
pub record Rests (t : Table) (U X : Set ℕ) (p : Tree SignedId) : Type 0 where
  pub tree : Tree ℕ
  pub named : map_tree (item_at t) tree ≡ p
  pub principals : EachPrincipal (λ i. i < item_count t) tree
  pub within : IsWithin U X
  pub closes : ItemDerives t U tree
  pub grows : Grows (items t) t.logic X tree
