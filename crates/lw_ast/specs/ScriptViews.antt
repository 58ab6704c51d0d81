-- What the contracts see of a program's scripts: their trees.
use Rattle.std.specs.Prelude.{ℕ, zero, suc, List, [], ◌∷◌, map, Option, Some, None}
use Rattle.lw_ast.specs.declared.operator.Op.{Op}
use Rattle.lw_ast.specs.declared.operator.Prefix.TheVariants.{Not, Nec, Poss}
use Rattle.lw_ast.specs.declared.expr.Expr.{Expr}
use Rattle.lw_ast.specs.declared.expr.Expr.TheOpen.{Expr-F, Exprs-F, Terms-F}
use Rattle.lw_ast.specs.declared.expr.Expr.TheFolds.{fold-Expr, fold-Exprs, fold-Terms}
use Rattle.lw_ast.specs.declared.expr.Exprs.{Exprs}
use Rattle.lw_ast.specs.declared.expr.Terms.{Terms}
use Rattle.lw_ast.specs.declared.script.Block.{Block}
use Rattle.lw_ast.specs.declared.script.Script.{Script}
use Rattle.lw_ast.specs.declared.script.Stmt.{Stmt}
use Rattle.lw_ast.specs.declared.script.StmtKind.{StmtKind}
use Rattle.lw_ast.specs.declared.script.StmtKind.TheOpen.{Block-F, StmtKind-F, Stmt-F}
use Rattle.lw_ast.specs.declared.script.StmtKind.TheFolds.{fold-Block, fold-StmtKind, fold-Stmt}
use Rattle.lw_ast.specs.declared.operator.Series.TheVariants.{Sum, Product}
use Rattle.lw_ast.specs.declared.operator.Link.TheVariants.{Either, Both, Binary}
use Rattle.lw_ast.specs.Trees.{Expression, number, text, truth, nothing, upper, logic, variable, bot, top, prefixed, linked, chained, compared, denied, list, call, Expressions, none, more, Operands, no_more, signed, Kind, assign, print, choose, count_up, each, repeat, Statement, at, Statements, over, then}

-- a list as expressions
abbrev pub expressions_of : List Expression → Expressions
expressions_of [] = none
expressions_of (b ∷ bs) = more b (expressions_of bs)

-- a list as operands with their signs
abbrev pub operands_of : List (Op × Expression) → Operands
operands_of [] = no_more
operands_of (b ∷ bs) = signed b.0 b.1 (operands_of bs)

-- one level, with each expression inside already seen as its tree
abbrev pub expression_step : Expr-F Expression Expressions Operands → Expression
expression_step (Expr-F.Number n) = number n
expression_step (Expr-F.Text bytes) = text bytes
expression_step (Expr-F.Truth is) = truth is
expression_step Expr-F.Nothing = nothing
expression_step (Expr-F.Upper x) = upper x
expression_step (Expr-F.Logic l) = logic l
expression_step (Expr-F.Var p) = variable p
expression_step Expr-F.Bot = bot
expression_step Expr-F.Top = top
expression_step (Expr-F.Not a) = prefixed Not a.value
expression_step (Expr-F.Nec a) = prefixed Nec a.value
expression_step (Expr-F.Poss a) = prefixed Poss a.value
expression_step (Expr-F.Binary j a b) = linked (Binary j) a.value b.value
expression_step (Expr-F.Sum a bs) = chained Sum a.value bs
expression_step (Expr-F.Product a bs) = chained Product a.value bs
expression_step (Expr-F.Compare r a b) = compared r a.value b.value
expression_step (Expr-F.Deny a) = denied a.value
expression_step (Expr-F.Both a b) = linked Both a.value b.value
expression_step (Expr-F.Either a b) = linked Either a.value b.value
expression_step (Expr-F.List es) = list es
expression_step (Expr-F.Call f es) = call f es

abbrev pub expressions_step : Exprs-F Expression Expressions Operands → Expressions
expressions_step x = expressions_of x.items.items

abbrev pub operands_step : Terms-F Expression Expressions Operands → Operands
operands_step x = operands_of x.items.items

-- the tree of an expression, of several, and of operands
abbrev pub expression : Expr → Expression
expression = fold-Expr Expression Expressions Operands expression_step expressions_step operands_step

abbrev pub expressions : Exprs → Expressions
expressions = fold-Exprs Expression Expressions Operands expression_step expressions_step operands_step

abbrev pub operands : Terms → Operands
operands = fold-Terms Expression Expressions Operands expression_step expressions_step operands_step

-- the trees of a list of them
abbrev pub expressions_in : List Expr → Expressions
expressions_in es = expressions_of (map expression es)

abbrev pub operands_in : List (Op × Expr) → Operands
operands_in es = operands_of (map (λ e. (e.0, expression e.1)) es)

-- a list as statements
abbrev pub statements_of : List Statement → Statements
statements_of [] = over
statements_of (s ∷ ss) = then s (statements_of ss)

abbrev pub kind_step : StmtKind-F Kind Statements Statement → Kind
kind_step (StmtKind-F.Assign x a) = assign x (expression a)
kind_step (StmtKind-F.Print es) = print (expressions es)
kind_step (StmtKind-F.If a ss us) = choose (expression a) ss us
kind_step (StmtKind-F.Count x a b ss) = count_up x (expression a) (expression b) ss
kind_step (StmtKind-F.Each x a ss) = each x (expression a) ss
kind_step (StmtKind-F.While a ss) = repeat (expression a) ss

abbrev pub statement_step : Stmt-F Kind Statements Statement → Statement
statement_step x = at x.line x.kind

abbrev pub statements_step : Block-F Kind Statements Statement → Statements
statements_step x = statements_of x.items.items

-- the tree of a statement, and of a block
abbrev pub statement : Stmt → Statement
statement = fold-Stmt Kind Statements Statement kind_step statements_step statement_step

abbrev pub statements : Block → Statements
statements = fold-Block Kind Statements Statement kind_step statements_step statement_step

abbrev pub kind : StmtKind → Kind
kind = fold-StmtKind Kind Statements Statement kind_step statements_step statement_step

abbrev pub statements_in : List Stmt → Statements
statements_in ss = statements_of (map statement ss)

-- the statements of a script
abbrev pub script : Script → Statements
script s = statements s.body

-- the i-th of them, from 0
abbrev pub expression_at : Expressions → ℕ → Option Expression
expression_at none i = None
expression_at (more b bs) zero = Some b
expression_at (more b bs) (suc i) = expression_at bs i

abbrev pub operand_at : Operands → ℕ → Option (Op × Expression)
operand_at no_more i = None
operand_at (signed s b bs) zero = Some (s, b)
operand_at (signed s b bs) (suc i) = operand_at bs i

abbrev pub statement_at : Statements → ℕ → Option Statement
statement_at over i = None
statement_at (then s ss) zero = Some s
statement_at (then s ss) (suc i) = statement_at ss i
