-- What is left of a list of expressions or operands once the first of them have been evaluated.
use Rattle.std.specs.Prelude.{ℕ, zero, suc}
use Rattle.lw_formula.specs.Formula.{Formula}
use Rattle.lw_ast.specs.Trees as tree
use Rattle.lw_ast.specs.Trees.{Expression, Expressions, Operands}
use Rattle.lw_value.specs.Values.{Val, Vals, empty, item}
use Rattle.lw_eval.specs.Evaluations.{Evaluation, Bind}
use Rattle.lw_eval.specs.Expressions.{Variables, Eval, Chain}

-- all but the first i expressions
abbrev pub rest : ℕ → Expressions → Expressions
rest zero es = es
rest (suc i) tree.none = tree.none
rest (suc i) (tree.more e es) = rest i es

-- all but the first i operands
abbrev pub operands_rest : ℕ → Operands → Operands
operands_rest zero bs = bs
operands_rest (suc i) tree.no_more = tree.no_more
operands_rest (suc i) (tree.signed s b bs) = operands_rest i bs

-- values one behind another
abbrev pub followed_by : Vals Formula → Vals Formula → Vals Formula
followed_by empty ws = ws
followed_by (item v vs) ws = item v (followed_by vs ws)

-- a sum or a product: its first operand, and then each further one in turn
abbrev pub Series : Variables → Expression → Operands → Evaluation (Val Formula) → Type 0
Series env a bs = Bind (Eval env a) (λ v. Chain env v bs)
