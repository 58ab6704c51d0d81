-- Ids of the formulas of which normal forms are made.
use Rattle.std.specs.Prelude.{ℕ, ◌<◌, List, length}
use Rattle.std.specs.List.{slice_index_or}
use Rattle.lw_formula.specs.Formula.{Formula}
use Rattle.lw_pool.specs.declared.id.FormId.{FormId}
use Rattle.lw_pool.specs.Region.{IsAt}
use Rattle.lw_trace.specs.LetterlessForm.{is_below}

-- at each place n of the list is the id of `box^n false`
abbrev pub AreBelow : List Formula → List FormId → Type 0
AreBelow ts ids = (n : ℕ) (d : FormId) → n < length ids → IsAt ts (is_below n) (slice_index_or ids n d)
