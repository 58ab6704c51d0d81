use Rattle.std.proofs.Common.{◌≡◌, Bool, true, false, Err, refl, sym, ◌∙◌, subst, ap}
use Rattle.lw_formula.specs.Name.{is_name}
use Rattle.lw_ast.specs.declared.expr.Expr.TheVariants.{Var, rolls-Var}
use Rattle.lw_ast.specs.declared.expr.Expr.TheOpen.{Expr-F}
use Rattle.lw_ast.specs.declared.expr.Expr.TheFolds.{fold-roll-Expr}
use Rattle.lw_ast.specs.Trees.{Expression, Expressions, Operands, variable}
use Rattle.lw_ast.specs.ScriptViews.{expression_step, expressions_step, operands_step, expression}
use Rattle.lw_ast.specs.Private.ScriptMachine.{Have, Astray, begin}
use Rattle.lw_ast.specs.Private.ReaderViews.{frames, setting_of}
use Rattle.lw_ast.proofs.LongNames.{short_variable, no_variable}
use Rattle.lw_ast.proofs.operand.variable.Goals as goal

true_unless : (b : Bool) → (b ≡ false → ⊥) → b ≡ true
true_unless true h = refl
true_unless false h = absurd (h refl)

pub returns-in-Ok-clause-ok : goal.returns-in-Ok-clause-ok
returns-in-Ok-clause-ok c = λ line.
    let word = c.args.word.now in
    let fs = frames c.args.stack.items in
    let p = setting_of c.args.setting in
    let named = true_unless (is_name word) (λ e. let other = c.in-Ok.ensures.bad.1 e in cc) in
    let short = short_variable line word c.requires named in
    let same = c.in-Ok.ensures.ok in
    let seen : expression (Var c.in-Ok.name) ≡ variable c.in-Ok.name =
    ap expression (sym (rolls-Var c.in-Ok.name))
    ∙ fold-roll-Expr Expression Expressions Operands expression_step expressions_step operands_step (Expr-F.Var c.in-Ok.name) in
    (subst (λ t. Have (expression (Var c.in-Ok.name)) fs p ≡ begin t fs p) (sym short.0) (ap (λ a. Have a fs p) (seen ∙ ap variable same)), short.1)

pub returns-clause-fault : goal.returns-clause-fault
returns-clause-fault c = λ line.
    let other : is_name c.args.word.now ≡ false = c.in-Err-BadName.ensures.bad.0 (ap Err c.in-Err-BadName.field-0-is) in
    let foreign = no_variable line c.args.word.now c.requires other (sym c.if-is_long_variable.ensures) in
    (subst (λ t. begin t (frames c.args.stack.items) (setting_of c.args.setting) ≡ Astray) (sym foreign) refl, refl)
