-- What running a script does to its variables, how many steps it takes, and what it writes.
use Rattle.std.specs.Prelude.{◌≡◌, ◌≢◌, ℕ, zero, suc, ◌+◌, ◌-◌, ◌<◌, ◌≤◌, Bool, true, false, List, [], ◌++◌}
use Rattle.lw_formula.specs.Formula.{Formula}
use Rattle.lw_read.specs.declared.pool_printer.TheConstants.{LONGEST_TEXT}
use Rattle.lw_ast.specs.Trees as tree
use Rattle.lw_ast.specs.Trees.{Expression, Statement, Statements}
use Rattle.lw_value.specs.Values.{Val, Vals, number, empty, item}
use Rattle.lw_value.specs.Assignments.{put}
use Rattle.lw_value.specs.ValueTexts.{line_measure, IsLineOf}
use Rattle.lw_eval.specs.declared.trouble.Trouble.{Trouble}
use Rattle.lw_eval.specs.declared.trouble.Trouble.TheVariants.{TextLimit, StepLimit}
use Rattle.lw_eval.specs.Evaluations.{Evaluation, Got, Fails, Is, Bind, Pair}
use Rattle.lw_eval.specs.Operands.{number_in, list_in, both}
use Rattle.lw_eval.specs.Operators.{Tests}
use Rattle.lw_eval.specs.Expressions.{Variables, Eval, Evals}

-- the steps of a run
abbrev pub step_limit : ℕ
step_limit = 1000000

-- how a run ends: all was carried out; a trouble came at a line; or it was cut, where a statement or a turn would begin,
-- where the condition of a `while` would be evaluated, or within what a print statement writes
pub data End : Type 0 where
  Done : End
  Stopped : (line : ℕ) → Trouble → End
  Cut : End

-- what is done: from the variables and the number of steps before, to those after, with the bytes written and the end
abbrev pub Act : Type 1
Act = Variables → ℕ → Variables → ℕ → List ℕ → End → Type 0

-- nothing
pub data Nothing : Variables → ℕ → Variables → ℕ → List ℕ → End → Type 0 where
  nothing : {env : Variables} {k : ℕ} → Nothing env k env k [] Done

-- the one, and then the other where the first is carried out
pub data Then (first second : Act) : Variables → ℕ → Variables → ℕ → List ℕ → End → Type 0 where
  stops : {env env2 : Variables} {k k2 : ℕ} {out : List ℕ} {end : End} →
      first env k env2 k2 out end → end ≢ Done → Then first second env k env2 k2 out end
  goes : {env env1 env2 : Variables} {k k1 k2 : ℕ} {before after out : List ℕ} {end : End} →
      first env k env1 k1 before Done → second env1 k1 env2 k2 after end → out ≡ before ++ after →
      Then first second env k env2 k2 out end

-- a step: the beginning of a statement or of a turn, and then what it does. Where the steps are used up, nothing is done.
pub data Step (line : ℕ) (act : Act) : Variables → ℕ → Variables → ℕ → List ℕ → End → Type 0 where
  cut : {env : Variables} {k : ℕ} → Step line act env k env k [] Cut
  limit : {env : Variables} {k : ℕ} → step_limit ≤ k → Step line act env k env k [] (Stopped line StepLimit)
  step : {env env2 : Variables} {k k2 : ℕ} {out : List ℕ} {end : End} →
      k < step_limit → act env (k + 1) env2 k2 out end → Step line act env k env2 k2 out end

-- what is done with what an evaluation comes to; its trouble comes at this line
pub data With {A : Type 0} (line : ℕ) (value : Variables → Evaluation A → Type 0) (act : A → Act) :
    Variables → ℕ → Variables → ℕ → List ℕ → End → Type 0 where
  trouble : {env : Variables} {k : ℕ} {t : Trouble} → value env (Fails t) → With line value act env k env k [] (Stopped line t)
  value : {env env2 : Variables} {k k2 : ℕ} {out : List ℕ} {end : End} (v : A) →
      value env (Got v) → act v env k env2 k2 out end → With line value act env k env2 k2 out end

-- the variable is given the value
pub data Assigns (x : List ℕ) (v : Val Formula) : Variables → ℕ → Variables → ℕ → List ℕ → End → Type 0 where
  assigned : {env : Variables} {k : ℕ} → Assigns x v env k (put env x v) k [] Done

-- the line of the values is written: all of it, or where the run is cut, a first part. It may not be too long.
pub data Prints (line : ℕ) (vs : Vals Formula) : Variables → ℕ → Variables → ℕ → List ℕ → End → Type 0 where
  whole : {env : Variables} {k : ℕ} {text : List ℕ} →
      line_measure vs ≤ LONGEST_TEXT → IsLineOf vs text → Prints line vs env k env k text Done
  part : {env : Variables} {k : ℕ} {text out : List ℕ} (rest : List ℕ) →
      line_measure vs ≤ LONGEST_TEXT → IsLineOf vs text → text ≡ out ++ rest → Prints line vs env k env k out Cut
  too_long : {env : Variables} {k : ℕ} → LONGEST_TEXT < line_measure vs → Prints line vs env k env k [] (Stopped line TextLimit)

-- a turn for each value: a step, the value for the variable, and the body, which may give the variable others
abbrev pub Turns : ℕ → List ℕ → Act → Vals Formula → Act
Turns line x body empty = Nothing
Turns line x body (item v vs) = Then (Step line (λ env. body (put env x v))) (Turns line x body vs)

-- turns for as long as the condition is yes; it is evaluated before the step of each turn
pub data Repeats (line : ℕ) (test : Variables → Evaluation Bool → Type 0) (body : Act) :
    Variables → ℕ → Variables → ℕ → List ℕ → End → Type 0 where
  cut : {env : Variables} {k : ℕ} → Repeats line test body env k env k [] Cut
  trouble : {env : Variables} {k : ℕ} {t : Trouble} → test env (Fails t) → Repeats line test body env k env k [] (Stopped line t)
  ends : {env : Variables} {k : ℕ} → test env (Got false) → Repeats line test body env k env k [] Done
  limit : {env : Variables} {k : ℕ} → test env (Got true) → step_limit ≤ k → Repeats line test body env k env k [] (Stopped line StepLimit)
  stops : {env env2 : Variables} {k k2 : ℕ} {out : List ℕ} {end : End} → test env (Got true) → k < step_limit →
      body env (k + 1) env2 k2 out end → end ≢ Done → Repeats line test body env k env2 k2 out end
  turn : {env env1 env2 : Variables} {k k1 k2 : ℕ} {before after out : List ℕ} {end : End} → test env (Got true) → k < step_limit →
      body env (k + 1) env1 k1 before Done → Repeats line test body env1 k1 env2 k2 after end → out ≡ before ++ after →
      Repeats line test body env k env2 k2 out end

-- n numbers from m on
abbrev pub numbers_from : ℕ → ℕ → Vals Formula
numbers_from m zero = empty
numbers_from m (suc n) = item (number m) (numbers_from (m + 1) n)

-- the bounds of a `for`: both are evaluated, and then their kinds are tested
abbrev pub Bounds : Expression → Expression → Variables → Evaluation (ℕ × ℕ) → Type 0
Bounds a b env = Bind (Pair (Eval env a) (Eval env b)) (λ v. Is (both (number_in v.0) (number_in v.1)))

-- one of two, as a condition says
abbrev pub Choice : Act → Act → Bool → Act
Choice first second true = first
Choice first second false = second

abbrev mutual
  -- what a statement at this line does
  pub Does : ℕ → tree.Kind → Act
  Does line (tree.assign x a) = With line (λ env. Eval env a) (Assigns x)
  Does line (tree.print es) = With line (λ env. Evals env es) (Prints line)
  Does line (tree.choose a first second) = With line (λ env. Tests (Eval env a)) (Choice (Run first) (Run second))
  Does line (tree.count_up x a b body) = With line (Bounds a b) (λ n. Turns line x (Run body) (numbers_from n.0 (n.1 + 1 - n.0)))
  Does line (tree.each x a body) = With line (λ env. Bind (Eval env a) (λ v. Is (list_in v))) (Turns line x (Run body))
  Does line (tree.repeat a body) = Repeats line (λ env. Tests (Eval env a)) (Run body)

  -- each statement is a step
  pub DoesStep : Statement → Act
  DoesStep (tree.at line kind) = Step line (Does line kind)

  -- statements one after another
  pub Run : Statements → Act
  Run tree.over = Nothing
  Run (tree.then s ss) = Then (DoesStep s) (Run ss)
