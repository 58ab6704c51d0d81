-- What a walk over a pool's formulas has when it comes to one of them.
use Rattle.std.specs.Prelude.{◌<◌, List}
use Rattle.std.specs.List.{slice_index_or}
use Rattle.lw_formula.specs.Formula.{Formula, IsOperand}
use Rattle.lw_pool.specs.declared.id.FormId.{FormId}
use Rattle.lw_pool.specs.Region.{tree_at}

-- for each operand of the formula at a, the table has what is right for the operand
abbrev pub AreOperandsRight : {X : Type 0} → (Formula → X → Type 0) → List Formula → List X → FormId → Type 0
AreOperandsRight {X} Right ts done a =
    (c : FormId) (d : X) → c.0 < a.0 → IsOperand (tree_at ts c) (tree_at ts a) → Right (tree_at ts c) (slice_index_or done c.0 d)
