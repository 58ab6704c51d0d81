use Rattle.std.proofs.Common.{sym, ap, ◌∙◌, arith}
use Rattle.lw_closure.specs.Table.{form_of}
use Rattle.lw_closure.proofs.IdInsertion.{found_form}
use Rattle.lw_closure.proofs.numbering.number.Goals as goal

pub returns-clause-there : goal.returns-clause-there
returns-clause-there c =
    let found = found_form c.args.forms.now.keys c.args.item.form c.in_ok-form.form (sym c.in_ok-form.ensures.index) in (
      omega (arith, found.0),
      λ i. record { sign = c.item_number.ensures.sign i; form = (ap (form_of c.args.forms.now.keys) c.item_number.ensures.form ∙ found.1) i },
    )
