use Rattle.std.proofs.Common.{sym, subst}
use Rattle.std.proofs.lemmas.Result.{err_from_is_err_and}
use Rattle.std.specs.List.{slice_range}
use Rattle.lw_formula.specs.Tree.{tree_of}
use Rattle.lw_read.specs.Lexemes.{lexeme_of}
use Rattle.lw_read.specs.Grammar.{formula_language}
use Rattle.lw_read.specs.Machine.{Refuses}
use Rattle.lw_read.specs.Private.FormulaMachine.{formula_machine, step, go_on}
use Rattle.lw_read.specs.Private.ReaderViews.{lexeme, frames, state}
use Rattle.lw_read.proofs.reader.FormulaReaderTextReader.take.Goals as goal

pub returns-in_err-progress-in-Operand-clause-fault : goal.returns-in_err-progress-in-Operand-clause-fault
returns-in_err-progress-in-Operand-clause-fault c =
    let k = err_from_is_err_and c.from_residual-in_err-progress-in-Operand.result c.from_residual-in_err-progress-in-Operand.ensures.1 in
    let text = c.args.text.now in
    let token = c.args.token in
    let bytes = slice_range text token.start token.end in
    let part = c.part_of-part.result in
    let fs = frames c.args.self.stack.items in
    let a = tree_of c.in-Operand.operand in
    let told = subst (λ fault. Refuses formula_language formula_machine (lexeme part bytes) (go_on (lexeme part bytes) a fs) token fault) (sym k.2) (c.in_err-progress-in-Operand.ensures.fault bytes) in
    rw k.1
    (subst (λ progress. Refuses formula_language formula_machine (lexeme_of text token) (step (lexeme_of text token) (state progress fs)) token k.0) (sym c.in-Operand.is)
    (subst (λ t. Refuses formula_language formula_machine t (go_on t a fs) token k.0) c.part_of-part.ensures told))
