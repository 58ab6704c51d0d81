-- What an expression comes to, where the script's variables have these values. Operands and arguments are evaluated from
-- left to right; then their kinds are tested, and then comes the operator's or the function's own refusal.
use Rattle.std.specs.Prelude.{ℕ, not, List}
use Rattle.lw_formula.specs.Formula.{Formula, letter, falsum, verum}
use Rattle.lw_ast.specs.declared.operator.Link.TheVariants as link
use Rattle.lw_ast.specs.Trees as tree
use Rattle.lw_ast.specs.Trees.{Expression, Expressions, Operands}
use Rattle.lw_value.specs.Values.{Val, Vals, formula, truth, number, text, logic, naught, empty, item}
use Rattle.lw_value.specs.Assignments.{value_at}
use Rattle.lw_eval.specs.declared.trouble.Trouble.TheVariants.{Unbound}
use Rattle.lw_eval.specs.Evaluations.{Evaluation, Got, found_or, Is, Bind, Pair}
use Rattle.lw_eval.specs.Operators.{Prefixes, Joins, Calculates, Compares, Tests, Both, Either, list_of}
use Rattle.lw_eval.specs.Calls.{Calls}

-- the script variables with their values, in order of first assignment
abbrev pub Variables : Type 0
Variables = List (List ℕ × Val Formula)

abbrev mutual
  -- what the expression comes to
  pub Eval : Variables → Expression → Evaluation (Val Formula) → Type 0
  Eval env (tree.number n) = Is (Got (number n))
  Eval env (tree.text bytes) = Is (Got (text bytes))
  Eval env (tree.truth b) = Is (Got (truth b))
  Eval env tree.nothing = Is (Got naught)
  Eval env (tree.upper x) = Is (found_or (Unbound x) (value_at env x))
  Eval env (tree.logic l) = Is (Got (logic l))
  Eval env (tree.variable p) = Is (Got (formula (letter p)))
  Eval env tree.bot = Is (Got (formula falsum))
  Eval env tree.top = Is (Got (formula verum))
  Eval env (tree.prefixed sign a) = Bind (Eval env a) (Prefixes sign)
  Eval env (tree.linked link.Either a b) = Bind (Tests (Eval env a)) (λ t. Either t (Eval env b))
  Eval env (tree.linked link.Both a b) = Bind (Tests (Eval env a)) (λ t. Both t (Eval env b))
  Eval env (tree.linked (link.Binary j) a b) = Bind (Pair (Eval env a) (Eval env b)) (λ v. Joins j v.0 v.1)
  Eval env (tree.chained k a bs) = Bind (Eval env a) (λ v. Chain env v bs)
  Eval env (tree.compared r a b) = Bind (Pair (Eval env a) (Eval env b)) (λ v. Compares r v.0 v.1)
  Eval env (tree.denied a) = Bind (Tests (Eval env a)) (λ b. Is (Got (truth (not b))))
  Eval env (tree.list es) = Bind (Evals env es) (λ vs. Is (list_of vs))
  Eval env (tree.call f es) = Bind (Evals env es) (Calls f)

  -- a sum or a product from its value so far on: each further operand in turn
  pub Chain : Variables → Val Formula → Operands → Evaluation (Val Formula) → Type 0
  Chain env v tree.no_more = Is (Got v)
  Chain env v (tree.signed s b bs) = Bind (Bind (Eval env b) (Calculates s v)) (λ w. Chain env w bs)

  -- expressions one after another
  pub Evals : Variables → Expressions → Evaluation (Vals Formula) → Type 0
  Evals env tree.none = Is (Got empty)
  Evals env (tree.more e es) = Bind (Eval env e) (λ v. Bind (Evals env es) (λ vs. Is (Got (item v vs))))
