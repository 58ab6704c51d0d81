use Rattle.std.proofs.Common.{◌≡◌, ℕ, ◌<◌, true}
use Rattle.lw_sat.specs.Sets.{top}
use Rattle.lw_sat.specs.Private.LabelWork.{is_nothing, IsQuiet, IsWork}
use Rattle.lw_sat.proofs.work.find.Given as goal

abbrev pub invariant-loop-item : goal.invariant-loop-item
invariant-loop-item l = record {
  work : IsWork l.closure (top l.board.labels) l.found;
  quiet : is_nothing l.found ≡ true → (i : ℕ) → i < l.item → top l.board.labels i ≡ true → IsQuiet l.closure (top l.board.labels) i;
}
