-- What a script may write, run from no variables.
use Rattle.std.specs.Prelude.{◌≢◌, ℕ, List, []}
use Rattle.lw_ast.specs.Trees.{Statements}
use Rattle.lw_eval.specs.Expressions.{Variables}
use Rattle.lw_eval.specs.Runs.{End, Cut, Run}

-- a run of the script writes this, and ends so, all carried out or in a trouble
pub record Allows (script : Statements) (out : List ℕ) (end : End) : Type 0 where
  pub env : Variables
  pub steps : ℕ
  pub run : Run script [] 0 env steps out end
  pub whole : end ≢ Cut

-- a run of the script has written this where it was cut
pub record Begins (script : Statements) (out : List ℕ) : Type 0 where
  pub env : Variables
  pub steps : ℕ
  pub run : Run script [] 0 env steps out Cut
