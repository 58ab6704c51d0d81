-- An evaluation's trouble comes at the line of its statement.
use Rattle.std.proofs.Common.{ℕ, Result, Ok, Err, refl, sym, subst}
use Rattle.lw_eval.specs.declared.fault.EvalFault.{EvalFault}
use Rattle.lw_eval.specs.declared.fault.EvalFault.TheVariants.{Troubled, Memory}
use Rattle.lw_eval.specs.declared.run_fault.RunFault.{RunFault}
use Rattle.lw_eval.specs.declared.run_fault.RunFault.TheVariants as fault
use Rattle.lw_eval.specs.Evaluations.{Evaluation, Got, Bind, fails, goes}
use Rattle.lw_eval.specs.Private.Given.{Gives}
use Rattle.lw_eval.specs.Private.Carried.{GivesAt, IsFaultAt}

-- after a value, what comes of it is what the whole comes to
pub given_next : {X A B : Type 0} (line : ℕ) (see : X → B) (first : Evaluation A → Type 0) (second : A → Evaluation B → Type 0) (v : A) (r : Result X RunFault)
    → first (Got v) → GivesAt line see (second v) r → GivesAt line see (Bind first second) r
given_next line see first second v (Ok x) got next = goes v got next
given_next line see first second v (Err (fault.Stopped at t)) got next = (next.0, goes v got next.1)
given_next line see first second v (Err fault.SinkFailed) got next = next
given_next line see first second v (Err fault.Memory) got next = tt

-- the trouble of what comes first is that of the whole
pub given_fault : {A B : Type 0} (line : ℕ) (first : Evaluation A → Type 0) (second : A → Evaluation B → Type 0) (e : EvalFault) (f : RunFault)
    → Gives (λ (x : A). x) first (Err e) → IsFaultAt line e f → GivesAt line (λ (x : B). x) (Bind first second) (Err f)
given_fault line first second (Troubled t) f fails-with is = subst (λ g. GivesAt line (λ x. x) (Bind first second) (Err g)) (sym is) (refl, fails fails-with)
given_fault line first second Memory f fails-with is = subst (λ g. GivesAt line (λ x. x) (Bind first second) (Err g)) (sym is) tt

-- the evaluation's fault at its line
pub fault_given : {A : Type 0} (line : ℕ) (value : Evaluation A → Type 0) (e : EvalFault) (f : RunFault)
    → Gives (λ (x : A). x) value (Err e) → IsFaultAt line e f → GivesAt line (λ (x : A). x) value (Err f)
fault_given line value (Troubled t) f gives is = subst (λ g. GivesAt line (λ x. x) value (Err g)) (sym is) (refl, gives)
fault_given line value Memory f gives is = subst (λ g. GivesAt line (λ x. x) value (Err g)) (sym is) tt
