use Rattle.std.proofs.Common.{Err, ap, sym, ◌∙◌}
use Rattle.std.proofs.lemmas.Bool.{false≢true}
use Rattle.lw_formula.specs.Name.{is_name, is_reserved, reserved_words}
use Rattle.lw_gen.proofs.formulas.variable.Goals as goal

pub unreachable-requires : goal.unreachable-requires
unfolding is_name is_reserved reserved_words
unreachable-requires c = false≢true (sym (c.from_bytes.ensures.bad.0 (c.in-Err-BadName.is ∙ ap Err c.in-Err-BadName.field-0-is)))
