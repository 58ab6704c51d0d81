-- What the answers of the functions that carry out a part of a run say of it, and what is left of it in a loop.
use Rattle.std.specs.Prelude.{◌≡◌, ◌+◌, ◌<◌, ◌≤◌, ℕ, Bool, zero, suc, List, [], ◌++◌, Option, Result, Ok, Err, ⊤, OnOk}
use Rattle.lw_formula.specs.Formula.{Formula}
use Rattle.lw_io.specs.Output.{Adds}
use Rattle.lw_ast.specs.Trees.{Expression, Statements, over, then}
use Rattle.lw_value.specs.Values.{Vals}
use Rattle.lw_value.specs.Evidence.{Shows, EachOfCertificates}
use Rattle.lw_eval.specs.declared.fault.EvalFault.{EvalFault}
use Rattle.lw_eval.specs.declared.fault.EvalFault.TheVariants.{Troubled, Memory}
use Rattle.lw_eval.specs.declared.run_fault.RunFault.{RunFault}
use Rattle.lw_eval.specs.declared.run_fault.RunFault.TheVariants as fault
use Rattle.lw_eval.specs.declared.trouble.Trouble.TheVariants.{StepLimit}
use Rattle.lw_eval.specs.Evaluations.{Evaluation, Got, Fails, Is, Bind}
use Rattle.lw_eval.specs.Operands.{list_in}
use Rattle.lw_eval.specs.Operators.{Tests}
use Rattle.lw_eval.specs.Expressions.{Variables, Eval}
use Rattle.lw_eval.specs.Runs.{step_limit, Act, End, Cut}
use Rattle.lw_eval.specs.Ran.{IsEnd}

-- a run of a part from these steps, as an answer tells it; only where all was carried out the steps are told
pub record Carries (act : Act) (before : Variables) (k : ℕ) (after : Variables) (steps : ℕ)
    (written now : Option (List ℕ)) (result : Result ⊤ RunFault) : Type 0 where
  pub taken : ℕ
  pub out : List ℕ
  pub end : End
  pub run : act before k after taken out end
  pub adds : Adds written now out
  pub ends : IsEnd result end
  pub counts : OnOk result (taken ≡ steps)

-- the act, or a cut before it
pub data OrCut (act : Act) : Variables → ℕ → Variables → ℕ → List ℕ → End → Type 0 where
  cut_first : {env : Variables} {k : ℕ} → OrCut act env k env k [] Cut
  does : {env env2 : Variables} {k k2 : ℕ} {out : List ℕ} {end : End} → act env k env2 k2 out end → OrCut act env k env2 k2 out end

-- so much was done of the whole that whatever the rest does from here on makes it up
pub record Leads (whole rest : Act) (before : Variables) (k : ℕ) (here : Variables) (steps : ℕ)
    (written now : Option (List ℕ)) : Type 0 where
  pub done : List ℕ
  pub adds : Adds written now done
  pub leads : (after : Variables) (k2 : ℕ) (out : List ℕ) (end : End) →
      rest here steps after k2 out end → whole before k after k2 (done ++ out) end

-- the condition of an `if` or a `while`
abbrev pub Condition : Expression → Variables → Evaluation Bool → Type 0
Condition a env = Tests (Eval env a)

-- the list of a `for`
abbrev pub ListOf : Expression → Variables → Evaluation (Vals Formula) → Type 0
ListOf a env = Bind (Eval env a) (λ v. Is (list_in v))

-- an evaluation may come to what was answered, as it is seen; its trouble comes at the line
abbrev pub GivesAt : {X A : Type 0} → ℕ → (X → A) → (Evaluation A → Type 0) → Result X RunFault → Type 0
GivesAt line see value (Ok x) = value (Got (see x))
GivesAt line see value (Err (fault.Stopped at t)) = (at ≡ line) × value (Fails t)
GivesAt line see value (Err fault.SinkFailed) = ⊥
GivesAt line see value (Err fault.Memory) = ⊤

-- the fault of a run at the line that an evaluation's fault is
abbrev pub IsFaultAt : ℕ → EvalFault → RunFault → Type 0
IsFaultAt line (Troubled t) f = f ≡ fault.Stopped line t
IsFaultAt line Memory f = f ≡ fault.Memory

-- the statements from the i-th on
abbrev pub statements_from : ℕ → Statements → Statements
statements_from zero ss = ss
statements_from (suc i) over = over
statements_from (suc i) (then s ss) = statements_from i ss

-- each certificate in the values shows its formula or refutes it
abbrev pub HaveItemsEvidence : Vals Formula → Type 0
HaveItemsEvidence vs = EachOfCertificates Shows vs

-- a step is taken where one is left, else the run ends at the line
abbrev pub IsStepTaken : ℕ → ℕ → ℕ → Result ⊤ RunFault → Type 0
IsStepTaken line k next (Ok _) = (k < step_limit) × (next ≡ k + 1)
IsStepTaken line k next (Err f) = (step_limit ≤ k) × (next ≡ k) × (f ≡ fault.Stopped line StepLimit)
