-- How much there is of an expression or a statement: what falls at each call of the evaluator.
use Rattle.std.specs.Prelude.{ℕ, ◌+◌}
use Rattle.lw_ast.specs.Trees as tree
use Rattle.lw_ast.specs.Trees.{Expression, Expressions, Operands, Kind, Statement, Statements}

abbrev mutual
  pub size : Expression → ℕ
  size (tree.number n) = 1
  size (tree.text bytes) = 1
  size (tree.truth b) = 1
  size tree.nothing = 1
  size (tree.upper x) = 1
  size (tree.logic l) = 1
  size (tree.variable p) = 1
  size tree.bot = 1
  size tree.top = 1
  size (tree.prefixed sign a) = size a + 1
  size (tree.linked link a b) = size a + size b + 1
  size (tree.chained k a bs) = size a + operands_size bs + 1
  size (tree.compared r a b) = size a + size b + 1
  size (tree.denied a) = size a + 1
  size (tree.list es) = expressions_size es + 1
  size (tree.call f es) = expressions_size es + 1

  pub expressions_size : Expressions → ℕ
  expressions_size tree.none = 0
  expressions_size (tree.more e es) = size e + expressions_size es + 1

  pub operands_size : Operands → ℕ
  operands_size tree.no_more = 0
  operands_size (tree.signed s b bs) = size b + operands_size bs + 1

abbrev mutual
  pub kind_size : Kind → ℕ
  kind_size (tree.assign x a) = 1
  kind_size (tree.print es) = 1
  kind_size (tree.choose a first second) = statements_size first + statements_size second + 1
  kind_size (tree.count_up x a b body) = statements_size body + 1
  kind_size (tree.each x a body) = statements_size body + 1
  kind_size (tree.repeat a body) = statements_size body + 1

  pub statement_size : Statement → ℕ
  statement_size (tree.at line kind) = kind_size kind + 1

  pub statements_size : Statements → ℕ
  statements_size tree.over = 0
  statements_size (tree.then s ss) = statement_size s + statements_size ss + 1
