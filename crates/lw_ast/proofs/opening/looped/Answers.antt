use Rattle.std.proofs.Common.{IfErr, ℕ, sym, subst}
use Rattle.lw_ast.specs.ScriptViews.{statements}
use Rattle.lw_ast.specs.Private.ScriptMachine.{loop}
use Rattle.lw_ast.specs.Private.ReaderViews.{lexeme, bodies_of, IsRefused}
use Rattle.lw_ast.proofs.opening.looped.Goals as goal

pub returns-in-Word-clause-fault : goal.returns-in-Word-clause-fault
returns-in-Word-clause-fault c =
    subst (λ part. IfErr c.loop_variable.result (λ fault. (here : ℕ) → let t = lexeme part here c.args.bytes.now in
    IsRefused t (loop t c.args.line (statements c.args.before) (bodies_of c.args.bodies.items)) c.args.token fault))
    (sym c.in-Word.is) c.loop_variable.ensures.fault
