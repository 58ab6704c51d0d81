-- The last row of a stack, and its changes.
use Rattle.std.specs.Prelude.{◌≡◌, ℕ, ◌≤◌, length}
use Rattle.lw_proof.specs.System.{Set}
use Rattle.lw_rows.specs.RowStack.{Region, IsRegion}
use Rattle.lw_sat.specs.Sets.{top, lower}

-- the stack has a last row
pub record HasTop (r : Region) : Type 0 where
  pub some : 1 ≤ length r.rows
  pub region : IsRegion r

-- the set of the last row is X now, and all else is as before
pub record Replaces (old new : Region) (X : Set ℕ) : Type 0 where
  pub there : HasTop new
  pub top : top new ≡ X
  pub lower : lower new ≡ lower old
  pub width : new.width ≡ old.width
