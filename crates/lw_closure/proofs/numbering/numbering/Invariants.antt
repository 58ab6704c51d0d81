use Rattle.std.proofs.Common.{◌≡◌, take}
use Rattle.lw_closure.proofs.numbering.numbering.Given as goal

abbrev pub invariant-loop-form : goal.invariant-loop-form
invariant-loop-form l = l.numbered.keys ≡ take l.form-index l.forms
