-- What is seen of expressions, operands and statements is seen of the lists that hold them.
use Rattle.std.proofs.Common.{◌≡◌, ℕ, zero, suc, ◌<◌, List, [], ◌∷◌, ◌++◌, length, Some, get_or, refl, ◌∙◌, ap, arith}
use Rattle.lw_ast.specs.declared.operator.Op.{Op}
use Rattle.lw_ast.specs.declared.expr.Expr.{Expr}
use Rattle.lw_ast.specs.declared.expr.Exprs.{Exprs}
use Rattle.lw_ast.specs.declared.expr.Terms.{Terms}
use Rattle.lw_ast.specs.declared.expr.Expr.TheOpen.{Exprs-F, Terms-F}
use Rattle.lw_ast.specs.declared.expr.Expr.TheViews.{out-Exprs, roll-Exprs, out-Terms, roll-Terms}
use Rattle.lw_ast.specs.declared.expr.Expr.TheFolds.{fold-roll-Exprs, fold_out-Exprs, fold-roll-Terms, fold_out-Terms}
use Rattle.lw_ast.specs.declared.script.Block.{Block}
use Rattle.lw_ast.specs.declared.script.Stmt.{Stmt}
use Rattle.lw_ast.specs.declared.script.StmtKind.{StmtKind}
use Rattle.lw_ast.specs.declared.script.StmtKind.TheOpen.{Block-F}
use Rattle.lw_ast.specs.declared.script.StmtKind.TheViews.{out-Block, roll-Block}
use Rattle.lw_ast.specs.declared.script.StmtKind.TheFolds.{fold-roll-Block, fold_out-Block}
use Rattle.lw_ast.specs.Trees.{Expression, Expressions, Operands, Kind, Statement, Statements, more, signed, then, put, count, add, sign_count, behind, statement_count}
use Rattle.lw_ast.specs.ScriptViews.{expression_step, expressions_step, operands_step, kind_step, statement_step, statements_step, expression, expressions, operands, statement, statements, expressions_in, operands_in, statements_in, expression_at, operand_at, statement_at}

pub expressions_out : (es : Exprs) → expressions es ≡ expressions_in (out-Exprs es).items.items
expressions_out = fold_out-Exprs Expression Expressions Operands expression_step expressions_step operands_step

pub expressions_roll : (x : Exprs-F Expr Exprs Terms) → expressions (roll-Exprs x) ≡ expressions_in x.items.items
expressions_roll = fold-roll-Exprs Expression Expressions Operands expression_step expressions_step operands_step

pub operands_out : (es : Terms) → operands es ≡ operands_in (out-Terms es).items.items
operands_out = fold_out-Terms Expression Expressions Operands expression_step expressions_step operands_step

pub operands_roll : (x : Terms-F Expr Exprs Terms) → operands (roll-Terms x) ≡ operands_in x.items.items
operands_roll = fold-roll-Terms Expression Expressions Operands expression_step expressions_step operands_step

pub statements_out : (ss : Block) → statements ss ≡ statements_in (out-Block ss).items.items
statements_out = fold_out-Block Kind Statements Statement kind_step statements_step statement_step

pub statements_roll : (x : Block-F StmtKind Block Stmt) → statements (roll-Block x) ≡ statements_in x.items.items
statements_roll = fold-roll-Block Kind Statements Statement kind_step statements_step statement_step

-- one more
pub expressions_push : (es : List Expr) (e : Expr) → expressions_in (es ++ e ∷ []) ≡ put (expressions_in es) (expression e)
expressions_push [] e = refl
expressions_push (x ∷ es) e = ap (more (expression x)) (expressions_push es e)

pub operands_push : (es : List (Op × Expr)) (s : Op) (e : Expr) → operands_in (es ++ (s, e) ∷ []) ≡ add (operands_in es) s (expression e)
operands_push [] s e = refl
operands_push (x ∷ es) s e = ap (signed x.0 (expression x.1)) (operands_push es s e)

pub statements_push : (ss : List Stmt) (s : Stmt) → statements_in (ss ++ s ∷ []) ≡ behind (statements_in ss) (statement s)
statements_push [] s = refl
statements_push (x ∷ ss) s = ap (then (statement x)) (statements_push ss s)

-- how many there are
expressions_in_count : (es : List Expr) → count (expressions_in es) ≡ length es
expressions_in_count [] = refl
expressions_in_count (x ∷ es) = ap suc (expressions_in_count es)

operands_in_count : (es : List (Op × Expr)) → sign_count (operands_in es) ≡ length es
operands_in_count [] = refl
operands_in_count (x ∷ es) = ap suc (operands_in_count es)

statements_in_count : (ss : List Stmt) → statement_count (statements_in ss) ≡ length ss
statements_in_count [] = refl
statements_in_count (x ∷ ss) = ap suc (statements_in_count ss)

pub expressions_count : (es : Exprs) → count (expressions es) ≡ length (out-Exprs es).items.items
expressions_count es = ap count (expressions_out es) ∙ expressions_in_count (out-Exprs es).items.items

pub operands_count : (es : Terms) → sign_count (operands es) ≡ length (out-Terms es).items.items
operands_count es = ap sign_count (operands_out es) ∙ operands_in_count (out-Terms es).items.items

pub statements_count : (ss : Block) → statement_count (statements ss) ≡ length (out-Block ss).items.items
statements_count ss = ap statement_count (statements_out ss) ∙ statements_in_count (out-Block ss).items.items

-- each of them
pub expressions_in_at : (es : List Expr) (i : ℕ) (d : Expr) → i < length es → expression_at (expressions_in es) i ≡ Some (expression (get_or es i d))
expressions_in_at [] i d h = absurd (omega arith)
expressions_in_at (x ∷ es) zero d h = refl
expressions_in_at (x ∷ es) (suc i) d h = expressions_in_at es i d (omega arith)

pub operands_in_at : (es : List (Op × Expr)) (i : ℕ) (d : Op × Expr) → i < length es → operand_at (operands_in es) i ≡ Some ((get_or es i d).0, expression (get_or es i d).1)
operands_in_at [] i d h = absurd (omega arith)
operands_in_at (x ∷ es) zero d h = refl
operands_in_at (x ∷ es) (suc i) d h = operands_in_at es i d (omega arith)

pub statements_in_at : (ss : List Stmt) (i : ℕ) (d : Stmt) → i < length ss → statement_at (statements_in ss) i ≡ Some (statement (get_or ss i d))
statements_in_at [] i d h = absurd (omega arith)
statements_in_at (x ∷ ss) zero d h = refl
statements_in_at (x ∷ ss) (suc i) d h = statements_in_at ss i d (omega arith)
