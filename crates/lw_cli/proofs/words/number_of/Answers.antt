use Rattle.std.proofs.Common.{◌<◌, get_or, subst, sym, refl, arith}
use Rattle.lw_cli.proofs.NumbersRead.{no_number, number_read, number_beyond, nothing_read}
use Rattle.lw_cli.proofs.words.number_of.Goals as goal

pub returns-then-not-begins_above_zero : goal.returns-then-not-begins_above_zero
returns-then-not-begins_above_zero c =
    no_number c.args.word.now (λ above. let same = c.if-not-begins_above_zero.ensures.1 (subst (λ ds. 48 < get_or ds 0 0) (sym c.as_bytes.ensures.value) above) in absurd (cc))

pub returns-in-Ok : goal.returns-in-Ok
returns-in-Ok c =
    let above : 48 < get_or c.args.word.now 0 0 = subst (λ ds. 48 < get_or ds 0 0) c.as_bytes.ensures.value (c.if-not-begins_above_zero.ensures.0 refl) in
    number_read c.args.word.now c.parse.result c.in-Ok.number above c.parse.ensures.value.0 c.in-Ok.is (omega arith)

pub returns-in_default : goal.returns-in_default
returns-in_default c = number_beyond c.args.word.now c.parse.result c.in-Ok.number c.parse.ensures.value.0 c.in-Ok.is (omega arith)

pub returns-in_default-2 : goal.returns-in_default-2
returns-in_default-2 c = nothing_read c.args.word.now c.parse.result c.in_default.field-0 c.parse.ensures.value.0 c.in_default.is
