use Rattle.std.proofs.Common.{ℕ, List, sym, subst}
use Rattle.std.proofs.lemmas.Result.{IfOk-weaker, IfErr-weaker}
use Rattle.lw_ast.specs.ScriptViews.{expression}
use Rattle.lw_ast.specs.Private.ScriptMachine.{go_on, leave_all}
use Rattle.lw_ast.specs.Private.ReaderViews.{lexeme, frames, setting_of, IsStep, IsRefused}
use Rattle.lw_ast.proofs.StrayTokens.{go_on_leaves}
use Rattle.lw_ast.proofs.onward.settled.Goals as goal

pub returns-in_default : goal.returns-in_default
returns-in_default c =
    let part = c.args.part in
    let token = c.args.token in
    let a = expression c.args.operand in
    let fs = frames c.args.stack.items in
    let p = setting_of c.args.setting in
    let not = c.in_default in
    let leaves = λ (line : ℕ) (bytes : List ℕ). go_on_leaves part line bytes a fs p not.not-Between not.not-Compare not.not-Chained not.not-Close not.not-CloseList not.not-Comma in
    record {
      ok = IfOk-weaker c.left.result
          (λ next. (line : ℕ) (bytes : List ℕ) → let t = lexeme part line bytes in IsStep t (leave_all t a fs p) next)
          (λ next. (line : ℕ) (bytes : List ℕ) → let t = lexeme part line bytes in IsStep t (go_on p t a fs) next)
          (λ next is line bytes. subst (λ s. IsStep (lexeme part line bytes) s next) (sym (leaves line bytes)) (is line bytes))
          c.left.ensures.ok;
      fault = IfErr-weaker c.left.result
          (λ fault. (line : ℕ) (bytes : List ℕ) → let t = lexeme part line bytes in IsRefused t (leave_all t a fs p) token fault)
          (λ fault. (line : ℕ) (bytes : List ℕ) → let t = lexeme part line bytes in IsRefused t (go_on p t a fs) token fault)
          (λ fault is line bytes. subst (λ s. IsRefused (lexeme part line bytes) s token fault) (sym (leaves line bytes)) (is line bytes))
          c.left.ensures.fault;
    }
