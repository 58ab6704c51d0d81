use Rattle.std.proofs.Common.{sym, ◌∙◌}
use Rattle.lw_formula.specs.Tree.{tree_of}
use Rattle.lw_cert.proofs.WordReaders.{same-bytes, is-read}
use Rattle.lw_cert.proofs.formula.entered.Goals as goal

pub returns-then-eq-clause-found : goal.returns-then-eq-clause-found
returns-then-eq-clause-found c =
    is-read c.from_form.new.self c.args.text.now (tree_of c.args.form.now) c.in_ok-from_form.field-0
    (sym (same-bytes _ _ c.if-eq.ensures) ∙ c.as_slice.ensures.value ∙ c.in_ok-printed.ensures) c.requires c.in_ok-from_form.ensures.at
