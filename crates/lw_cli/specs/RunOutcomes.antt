-- The meaning of `run`: which output and which status a file's bytes allow.
use Rattle.std.specs.Prelude.{ℕ, ◌<◌, ◌≤◌, List, ◌++◌, length}
use Rattle.lw_ast.specs.declared.fault.ScriptFault.TheVariants.{Syntax}
use Rattle.lw_ast.specs.declared.fault.SyntaxWhy.{SyntaxWhy}
use Rattle.lw_ast.specs.Trees.{Statements}
use Rattle.lw_ast.specs.ScriptFaults.{ReadsAsScript, IsScriptFaultOf}
use Rattle.lw_eval.specs.declared.trouble.Trouble.{Trouble}
use Rattle.lw_eval.specs.Runs.{Done, Stopped}
use Rattle.lw_eval.specs.Outputs.{Allows, Begins}
use Rattle.lw_cli.specs.FileLimit.{file_limit}
use Rattle.lw_cli.specs.FaultLines.{file_limit_line, syntax_line, trouble_line}

-- over a file of these bytes `run` allows this output and this status
pub data RunOutcome (bytes : List ℕ) : List ℕ → ℕ → Type 0 where
  -- the file is too long
  too_long : file_limit < length bytes → RunOutcome bytes file_limit_line 1
  -- its text is no script: the line of its first fault
  refused : (line column : ℕ) (why : SyntaxWhy) → length bytes ≤ file_limit → IsScriptFaultOf bytes (Syntax line column why) →
      RunOutcome bytes (syntax_line line column why) 1
  -- the script is carried out: what it writes
  done : (s : Statements) (out : List ℕ) → length bytes ≤ file_limit → ReadsAsScript bytes s → Allows s out Done →
      RunOutcome bytes out 0
  -- the script ends in a trouble: what it writes before, and the line of the trouble
  stopped : (s : Statements) (out : List ℕ) (line : ℕ) (t : Trouble) → length bytes ≤ file_limit → ReadsAsScript bytes s →
      Allows s out (Stopped line t) → RunOutcome bytes (out ++ trouble_line line t) 1

-- over a file of these bytes a run of the script has written this where it was cut
pub record RunBegins (bytes out : List ℕ) : Type 0 where
  pub script : Statements
  pub short : length bytes ≤ file_limit
  pub reads : ReadsAsScript bytes script
  pub begins : Begins script out
