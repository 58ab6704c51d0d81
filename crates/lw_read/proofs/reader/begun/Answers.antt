use Rattle.std.proofs.Common.{sym, subst}
use Rattle.std.proofs.lemmas.Result.{err_from_is_err_and}
use Rattle.lw_read.specs.Lexemes.{other_lexeme}
use Rattle.lw_read.specs.Grammar.{formula_language}
use Rattle.lw_read.specs.Machine.{Refuses}
use Rattle.lw_read.specs.Private.FormulaMachine.{formula_machine, begin}
use Rattle.lw_read.specs.Private.ReaderViews.{lexeme, frames}
use Rattle.lw_read.proofs.reader.begun.Goals as goal

pub returns-in_err-named-in-Word-clause-fault : goal.returns-in_err-named-in-Word-clause-fault
returns-in_err-named-in-Word-clause-fault c =
    let k = err_from_is_err_and c.from_residual.result c.from_residual.ensures.1 in
    let bytes = c.args.bytes.now in
    let fs = frames c.args.stack.now.items in
    let token = c.args.token in
    rw k.1
    (subst (λ part. Refuses formula_language formula_machine (lexeme part bytes) (begin (lexeme part bytes) fs) token k.0) (sym c.in-Word.is)
    (subst (λ fault. Refuses formula_language formula_machine (other_lexeme bytes) (begin (other_lexeme bytes) fs) token fault) (sym k.2) (c.in_err-named-in-Word.ensures.fault fs)))
