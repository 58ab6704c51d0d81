use Rattle.std.proofs.Common.{IfErr, ℕ, sym, subst}
use Rattle.lw_ast.specs.Private.ScriptMachine.{begin}
use Rattle.lw_ast.specs.Private.ReaderViews.{lexeme, frames, setting_of, IsRefused}
use Rattle.lw_ast.proofs.operand.begun.Goals as goal

pub returns-in-Word-clause-fault : goal.returns-in-Word-clause-fault
returns-in-Word-clause-fault c =
    subst (λ part. IfErr c.word.result (λ fault. (line : ℕ) → let t = lexeme part line c.args.bytes.now in
    IsRefused t (begin t (frames c.args.stack.items) (setting_of c.args.setting)) c.args.token fault))
    (sym c.in-Word.is) c.word.ensures.fault
