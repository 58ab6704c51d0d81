-- Scripts without the functions that may choose what they give.
use Rattle.std.specs.Prelude.{⊤}
use Rattle.lw_ast.specs.declared.function.Function.{Function}
use Rattle.lw_ast.specs.declared.function.Function.TheVariants.{Certificate, Interpolate, Smallest}
use Rattle.lw_ast.specs.Trees as tree
use Rattle.lw_ast.specs.Trees.{Expression, Expressions, Operands, Kind, Statement, Statements}

-- the function gives one value for its arguments: it is none of `certificate`, `interpolate` and `smallest`, of which the last
-- takes certificates alone
abbrev pub GivesOne : Function → Type 0
GivesOne Certificate = ⊥
GivesOne Interpolate = ⊥
GivesOne Smallest = ⊥
GivesOne _ = ⊤

-- no function that may choose is called in the expression
abbrev mutual
  pub IsPlain : Expression → Type 0
  IsPlain (tree.prefixed sign a) = IsPlain a
  IsPlain (tree.linked link a b) = IsPlain a × IsPlain b
  IsPlain (tree.chained k a bs) = IsPlain a × AreOperandsPlain bs
  IsPlain (tree.compared r a b) = IsPlain a × IsPlain b
  IsPlain (tree.denied a) = IsPlain a
  IsPlain (tree.list es) = ArePlain es
  IsPlain (tree.call f es) = GivesOne f × ArePlain es
  IsPlain _ = ⊤

  pub ArePlain : Expressions → Type 0
  ArePlain tree.none = ⊤
  ArePlain (tree.more e es) = IsPlain e × ArePlain es

  pub AreOperandsPlain : Operands → Type 0
  AreOperandsPlain tree.no_more = ⊤
  AreOperandsPlain (tree.signed s b bs) = IsPlain b × AreOperandsPlain bs

-- nor anywhere in the statements
abbrev mutual
  pub IsPlainKind : Kind → Type 0
  IsPlainKind (tree.assign x a) = IsPlain a
  IsPlainKind (tree.print es) = ArePlain es
  IsPlainKind (tree.choose a first second) = IsPlain a × ArePlainStatements first × ArePlainStatements second
  IsPlainKind (tree.count_up x a b body) = IsPlain a × IsPlain b × ArePlainStatements body
  IsPlainKind (tree.each x a body) = IsPlain a × ArePlainStatements body
  IsPlainKind (tree.repeat a body) = IsPlain a × ArePlainStatements body

  pub IsPlainStatement : Statement → Type 0
  IsPlainStatement (tree.at line kind) = IsPlainKind kind

  pub ArePlainStatements : Statements → Type 0
  ArePlainStatements tree.over = ⊤
  ArePlainStatements (tree.then s ss) = IsPlainStatement s × ArePlainStatements ss
