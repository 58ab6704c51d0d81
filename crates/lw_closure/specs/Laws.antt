-- The laws of closures.
use Rattle.std.specs.Prelude.{ℕ, ◌<◌, IsTrue, List}
use Rattle.lw_formula.specs.Formula.{Formula}
use Rattle.lw_formula.specs.Signed.{SignedSet}
use Rattle.lw_pool.specs.Region.{tree_at, Grows}
use Rattle.lw_proof.specs.System.{Set}
use Rattle.lw_proof.specs.Derivation.{Derives}
use Rattle.lw_proof.specs.Tree.{Tree, map_tree}
use Rattle.lw_closure.specs.Table.{Table, item_count, signed_of}
use Rattle.lw_closure.specs.Items.{ItemDerives}
use Rattle.lw_closure.specs.Keeps.{Keeps}

-- what closes a set of items closes, formulas for items, each set that has the items' signed formulas
abbrev pub ItemsAreFormulas : Type 0
ItemsAreFormulas =
    (ts : List Formula) (t : Table) → Keeps ts t → (X : Set ℕ) (Y : SignedSet) →
    ((i : ℕ) → IsTrue (X i) → (i < item_count t) × IsTrue (Y (signed_of ts t i))) →
    (P : Tree ℕ) → ItemDerives t X P → Derives t.logic (tree_at ts t.goal) Y (map_tree (signed_of ts t) P)

-- a pool that grows keeps the closure's formulas
abbrev pub GrowthKeeps : Type 0
GrowthKeeps = (old new : List Formula) (t : Table) → Grows old new → Keeps old t → Keeps new t
