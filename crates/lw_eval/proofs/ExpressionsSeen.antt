-- An expression is seen as the tree that is built of those of its operands.
use Rattle.std.proofs.Common.{◌≡◌}
use Rattle.lw_ast.specs.declared.expr.Expr.{Expr}
use Rattle.lw_ast.specs.declared.expr.Exprs.{Exprs}
use Rattle.lw_ast.specs.declared.expr.Terms.{Terms}
use Rattle.lw_ast.specs.declared.expr.Expr.TheOpen.{Expr-F}
use Rattle.lw_ast.specs.declared.expr.Expr.TheViews.{roll-Expr}
use Rattle.lw_ast.specs.declared.expr.Expr.TheFolds.{fold-roll-Expr, map-Expr}
use Rattle.lw_ast.specs.Trees.{Expression, Expressions, Operands}
use Rattle.lw_ast.specs.ScriptViews.{expression_step, expressions_step, operands_step, expression, expressions, operands}

pub built : (x : Expr-F Expr Exprs Terms) →
    expression (roll-Expr x) ≡ expression_step (map-Expr Expr Exprs Terms Expression Expressions Operands expression expressions operands x)
built = fold-roll-Expr Expression Expressions Operands expression_step expressions_step operands_step
