-- The syntax trees of scripts.
use Rattle.std.specs.Prelude.{ℕ, suc, Bool, List}
use Rattle.lw_formula.specs.declared.logic.Logic.{Logic}
use Rattle.lw_ast.specs.declared.operator.Op.{Op}
use Rattle.lw_ast.specs.declared.operator.Series.{Series}
use Rattle.lw_ast.specs.declared.operator.Link.{Link}
use Rattle.lw_ast.specs.declared.operator.Relation.{Relation}
use Rattle.lw_ast.specs.declared.operator.Prefix.{Prefix}
use Rattle.lw_ast.specs.declared.function.Function.{Function}

mutual
  pub data Expression : Type 0 where
    number : (n : ℕ) → Expression
    text : (bytes : List ℕ) → Expression
    truth : (is : Bool) → Expression
    nothing : Expression
    upper : (x : List ℕ) → Expression
    logic : (l : Logic) → Expression
    variable : (p : List ℕ) → Expression
    bot : Expression
    top : Expression
    prefixed : (sign : Prefix) (a : Expression) → Expression
    linked : (link : Link) (a b : Expression) → Expression
    chained : (chain : Series) (a : Expression) (bs : Operands) → Expression
    compared : (r : Relation) (a b : Expression) → Expression
    denied : (a : Expression) → Expression
    list : (es : Expressions) → Expression
    call : (f : Function) (es : Expressions) → Expression

  pub data Expressions : Type 0 where
    none : Expressions
    more : (b : Expression) (bs : Expressions) → Expressions

  -- the further operands of a sum or a product, each with its sign
  pub data Operands : Type 0 where
    no_more : Operands
    signed : (sign : Op) (b : Expression) (bs : Operands) → Operands

-- expressions one behind another
abbrev pub joined : Expressions → Expressions → Expressions
joined none cs = cs
joined (more b bs) cs = more b (joined bs cs)

-- one expression more
abbrev pub put : Expressions → Expression → Expressions
put bs b = joined bs (more b none)

abbrev pub count : Expressions → ℕ
count none = 0
count (more b bs) = suc (count bs)

abbrev pub chained_up : Operands → Operands → Operands
chained_up no_more cs = cs
chained_up (signed s b bs) cs = signed s b (chained_up bs cs)

abbrev pub add : Operands → Op → Expression → Operands
add bs s b = chained_up bs (signed s b no_more)

abbrev pub sign_count : Operands → ℕ
sign_count no_more = 0
sign_count (signed s b bs) = suc (sign_count bs)

mutual
  pub data Kind : Type 0 where
    assign : (x : List ℕ) (a : Expression) → Kind
    print : (es : Expressions) → Kind
    choose : (a : Expression) (first second : Statements) → Kind
    count_up : (x : List ℕ) (a b : Expression) (body : Statements) → Kind
    each : (x : List ℕ) (a : Expression) (body : Statements) → Kind
    repeat : (a : Expression) (body : Statements) → Kind

  -- a statement with its line
  pub data Statement : Type 0 where
    at : (line : ℕ) (kind : Kind) → Statement

  pub data Statements : Type 0 where
    over : Statements
    then : (s : Statement) (ss : Statements) → Statements

abbrev pub followed : Statements → Statements → Statements
followed over ts = ts
followed (then s ss) ts = then s (followed ss ts)

abbrev pub behind : Statements → Statement → Statements
behind ss s = followed ss (then s over)

abbrev pub statement_count : Statements → ℕ
statement_count over = 0
statement_count (then s ss) = suc (statement_count ss)
