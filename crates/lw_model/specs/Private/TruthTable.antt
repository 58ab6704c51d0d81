-- The table by which `holds` tells truth: a row for each formula of a pool, with its truth at each world.
use Rattle.std.specs.Prelude.{◌≡◌, ℕ, ◌<◌, Bool, false, not, ◌&&◌, ◌||◌, List, length}
use Rattle.std.specs.Bool.{beq}
use Rattle.std.specs.List.{slice_index_or}
use Rattle.lw_formula.specs.Formula.{Formula}
use Rattle.lw_formula.specs.FiniteModel.{FiniteModel}
use Rattle.lw_formula.specs.Truth.{true_at}
use Rattle.lw_formula.specs.declared.joint.Joint.{Joint}
use Rattle.lw_formula.specs.declared.joint.Joint.TheVariants.{And, Or, Imp, Iff}

-- the row has the truth of the formula at each world
pub record IsRow (m : FiniteModel) (a : Formula) (row : List Bool) : Type 0 where
  pub long : length row ≡ m.worlds
  pub exact : (w : ℕ) → w < m.worlds → slice_index_or row w false ≡ true_at m w a

-- the connective's truth table
abbrev pub truth_table : Joint → Bool → Bool → Bool
truth_table And x y = x && y
truth_table Or x y = x || y
truth_table Imp x y = not x || y
truth_table Iff x y = beq x y
