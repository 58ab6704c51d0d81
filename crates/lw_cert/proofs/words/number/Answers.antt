use Rattle.std.proofs.Common.{sym, ◌∙◌, ap, subst}
use Rattle.std.proofs.lemmas.Fmt.{IsAscii-decimal, parse-decimal}
use Rattle.std.proofs.lemmas.Str.{IsUtf8-from_ascii}
use Rattle.std.specs.Fmt.{decimal}
use Rattle.std.specs.Str.{IsUtf8}
use Rattle.lw_cert.proofs.WordReaders.{ok-value, no-error, not-same}
use Rattle.lw_cert.proofs.words.number.Goals as goal

pub returns-in_default : goal.returns-in_default
returns-in_default c = λ n low same. c.in_default.ensures.cases.0 (subst IsUtf8 (sym same) (IsUtf8-from_ascii (decimal n) (IsAscii-decimal n low)))

pub returns-in_default-parse : goal.returns-in_default-parse
returns-in_default-parse c = λ n low same.
    no-error c.in_default-parse.field-0 n (parse-decimal 64 n c.in-Ok.text.now _ low low (c.in-Ok.ensures.cases.0 ∙ same) c.in_default-parse.ensures.value.0)

pub returns : goal.returns
returns c = λ n low same.
    let number = ok-value c.parse.result _ n c.in-Ok-parse.is (parse-decimal 64 n c.in-Ok.text.now _ low low (c.in-Ok.ensures.cases.0 ∙ same) c.parse.ensures.value.0) in
    not-same _ _ c.if-eq.ensures (c.as_bytes.ensures.value ∙ c.in_ok-printed.ensures.ok ∙ ap decimal number ∙ sym same)
