use Rattle.std.proofs.Common.{subst}
use Rattle.lw_formula.specs.Tree.{tree_of}
use Rattle.lw_formula.specs.Variables.{AddsVariables}
use Rattle.lw_formula.proofs.ByteOrder.{AreVariables-from_none}
use Rattle.lw_formula.proofs.form.Form.variables.Goals as goal

pub returns : goal.returns
returns c = AreVariables-from_none _ _ (subst (λ old. AddsVariables (tree_of c.args.self.now) old c.add_variables.new.names.items) c.new-names.ensures.items c.in_ok-add_variables.ensures)
