use Rattle.lw_formula.proofs.ByteOrder.{AddsVariables-insert}
use Rattle.lw_formula.proofs.form.add_name.Goals as goal

pub returns-in_ok-insert : goal.returns-in_ok-insert
returns-in_ok-insert c = rw (c.in_ok-insert.ensures.items, c.in_ok-try_clone.ensures) (AddsVariables-insert _ _ _ c.requires (rw c.as_slice.ensures.value at c.in-Err.ensures.absent))
