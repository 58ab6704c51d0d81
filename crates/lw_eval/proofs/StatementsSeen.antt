-- A statement is seen as the tree that is built of those of its parts.
use Rattle.std.proofs.Common.{◌≡◌, ℕ, List, ◌∙◌, ap, sym}
use Rattle.lw_ast.specs.declared.expr.Expr.{Expr}
use Rattle.lw_ast.specs.declared.expr.Exprs.{Exprs}
use Rattle.lw_ast.specs.declared.script.Block.{Block}
use Rattle.lw_ast.specs.declared.script.Stmt.{Stmt}
use Rattle.lw_ast.specs.declared.script.StmtKind.{StmtKind}
use Rattle.lw_ast.specs.declared.script.StmtKind.TheOpen.{StmtKind-F}
use Rattle.lw_ast.specs.declared.script.StmtKind.TheViews.{roll-StmtKind, out-Stmt}
use Rattle.lw_ast.specs.declared.script.StmtKind.TheFolds.{fold-roll-StmtKind, map-StmtKind, fold_out-Stmt}
use Rattle.lw_ast.specs.declared.script.StmtKind.TheVariants as shape
use Rattle.lw_ast.specs.Trees as tree
use Rattle.lw_ast.specs.Trees.{Kind, Statement, Statements}
use Rattle.lw_ast.specs.ScriptViews.{kind_step, statement_step, statements_step, expression, expressions, kind, statement, statements}

built : (x : StmtKind-F StmtKind Block Stmt) → kind (roll-StmtKind x) ≡ kind_step (map-StmtKind StmtKind Block Stmt Kind Statements Statement kind statements statement x)
built = fold-roll-StmtKind Kind Statements Statement kind_step statements_step statement_step

pub assign_seen : (s : StmtKind) (x : List ℕ) (a : Expr) → s ≡ shape.Assign x a → kind s ≡ tree.assign x (expression a)
assign_seen s x a is = ap kind is ∙ ap kind (sym (shape.rolls-Assign x a)) ∙ built (StmtKind-F.Assign x a)

pub print_seen : (s : StmtKind) (es : Exprs) → s ≡ shape.Print es → kind s ≡ tree.print (expressions es)
print_seen s es is = ap kind is ∙ ap kind (sym (shape.rolls-Print es)) ∙ built (StmtKind-F.Print es)

pub choose_seen : (s : StmtKind) (a : Expr) (first second : Block) → s ≡ shape.If a first second → kind s ≡ tree.choose (expression a) (statements first) (statements second)
choose_seen s a first second is = ap kind is ∙ ap kind (sym (shape.rolls-If a first second)) ∙ built (StmtKind-F.If a first second)

pub count_up_seen : (s : StmtKind) (x : List ℕ) (a b : Expr) (body : Block) → s ≡ shape.Count x a b body → kind s ≡ tree.count_up x (expression a) (expression b) (statements body)
count_up_seen s x a b body is = ap kind is ∙ ap kind (sym (shape.rolls-Count x a b body)) ∙ built (StmtKind-F.Count x a b body)

pub each_seen : (s : StmtKind) (x : List ℕ) (a : Expr) (body : Block) → s ≡ shape.Each x a body → kind s ≡ tree.each x (expression a) (statements body)
each_seen s x a body is = ap kind is ∙ ap kind (sym (shape.rolls-Each x a body)) ∙ built (StmtKind-F.Each x a body)

pub repeat_seen : (s : StmtKind) (a : Expr) (body : Block) → s ≡ shape.While a body → kind s ≡ tree.repeat (expression a) (statements body)
repeat_seen s a body is = ap kind is ∙ ap kind (sym (shape.rolls-While a body)) ∙ built (StmtKind-F.While a body)

pub statement_seen : (s : Stmt) → statement s ≡ tree.at (out-Stmt s).line (kind (out-Stmt s).kind)
statement_seen = fold_out-Stmt Kind Statements Statement kind_step statements_step statement_step
