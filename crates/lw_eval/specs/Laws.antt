-- What holds of every run.
use Rattle.std.specs.Prelude.{◌≡◌, ◌≢◌, ℕ, ◌≤◌, List, [], ◌++◌}
use Rattle.lw_ast.specs.Trees as tree
use Rattle.lw_ast.specs.Trees.{Kind, Statement, Statements, followed}
use Rattle.lw_eval.specs.declared.trouble.Trouble.TheVariants.{StepLimit}
use Rattle.lw_eval.specs.Expressions.{Variables}
use Rattle.lw_eval.specs.Runs.{step_limit, End, Done, Stopped, Cut, Then, Run}
use Rattle.lw_eval.specs.Outputs.{Allows}
use Rattle.lw_eval.specs.Plain.{ArePlainStatements}

-- where one run is carried out, a second one goes on from there, and behind what the first has written
abbrev pub RunGoesOn : Type 0
RunGoesOn = (ss ts : Statements) (env env1 env2 : Variables) (k k1 k2 : ℕ) (out more : List ℕ) (end : End) →
    Run ss env k env1 k1 out Done → Run ts env1 k1 env2 k2 more end → Run (followed ss ts) env k env2 k2 (out ++ more) end

-- and every run of both is made so, or ends in the first
abbrev pub RunFallsApart : Type 0
RunFallsApart = (ss ts : Statements) (env env2 : Variables) (k k2 : ℕ) (out : List ℕ) (end : End) →
    Run (followed ss ts) env k env2 k2 out end → Then (Run ss) (Run ts) env k env2 k2 out end

-- where one run is carried out, it may be cut before the next statement
abbrev pub RunMayBeCut : Type 0
RunMayBeCut = (ss ts : Statements) (s : Statement) (env env1 : Variables) (k k1 : ℕ) (out : List ℕ) →
    Run ss env k env1 k1 out Done → Run (followed ss (tree.then s ts)) env k env1 k1 out Cut

-- a script that calls none of `certificate`, `interpolate` and `smallest` has at most one output and one end
abbrev pub OneOutput : Type 0
OneOutput = (script : Statements) (out out2 : List ℕ) (end end2 : End) → ArePlainStatements script →
    Allows script out end → Allows script out2 end2 → (out ≡ out2) × (end ≡ end2)

-- where all steps are taken, the next statement ends the run at its line, if the run isn't cut before, and does nothing else
abbrev pub StepsEnd : Type 0
StepsEnd = (line : ℕ) (kind : Kind) (ss : Statements) (env env2 : Variables) (k k2 : ℕ) (out : List ℕ) (end : End) → step_limit ≤ k →
    Run (tree.then (tree.at line kind) ss) env k env2 k2 out end → end ≢ Cut →
    (end ≡ Stopped line StepLimit) × (env2 ≡ env) × (k2 ≡ k) × (out ≡ [])
