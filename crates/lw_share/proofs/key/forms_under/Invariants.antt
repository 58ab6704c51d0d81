use Rattle.std.proofs.Common.{take}
use Rattle.lw_formula.specs.FiniteModel.{AreDistinct}
use Rattle.lw_share.proofs.FormsUnder.{AreForms}
use Rattle.lw_share.proofs.key.forms_under.Given as goal

abbrev pub invariant-loop-item : goal.invariant-loop-item
invariant-loop-item l = record {
  forms : AreForms (take l.item-index l.item-items) l.sign l.forms.items;
  distinct : AreDistinct l.item-items;
}
