-- An evaluation that follows on another, and the answers that say what it comes to.
use Rattle.std.proofs.Common.{◌≡◌, sym, refl, List, map, Result, Ok, Err, IsErrAnd, Bool, true, false}
use Rattle.std.proofs.lemmas.Bool.{false≢true}
use Rattle.std.proofs.lemmas.Result.{err_from_is_err_and}
use Rattle.lw_formula.specs.Formula.{Formula}
use Rattle.lw_pool.specs.declared.id.FormId.{FormId}
use Rattle.lw_ast.specs.declared.function.Function.{Function}
use Rattle.lw_ast.specs.Trees.{Expression}
use Rattle.lw_value.specs.declared.value.Value.{Value}
use Rattle.lw_value.specs.Values.{Val, vals, seen_all, truth}
use Rattle.lw_value.specs.Views.{value_of}
use Rattle.lw_eval.specs.declared.fault.EvalFault.{EvalFault}
use Rattle.lw_eval.specs.declared.fault.EvalFault.TheVariants.{Troubled, Memory}
use Rattle.lw_eval.specs.Evaluations.{Evaluation, Got, Bind}
use Rattle.lw_eval.specs.Evaluations.Bind.{fails, goes}
use Rattle.lw_eval.specs.Operators.{Tests, Both, Either}
use Rattle.lw_eval.specs.Calls.{Calls}
use Rattle.lw_eval.specs.Expressions.{Variables, Eval}
use Rattle.lw_eval.specs.Private.Given.{Faults, Gives, IsCall, shown_in}

-- a fault of the first is one of both
pub bind_faults : {A B : Type 0} (first : Evaluation A → Type 0) (second : A → Evaluation B → Type 0) (fault : EvalFault) →
    Faults first fault → Faults (Bind first second) fault
bind_faults first second (Troubled t) h = fails h
bind_faults first second Memory h = tt

-- what the second answers behind the first is what both do
pub bind_gives : {X A B : Type 0} (see : X → B) (first : Evaluation A → Type 0) (second : A → Evaluation B → Type 0) (v : A) (r : Result X EvalFault) →
    first (Got v) → Gives see (second v) r → Gives see (Bind first second) r
bind_gives see first second v (Ok x) h k = goes v h k
bind_gives see first second v (Err (Troubled t)) h k = goes v h k
bind_gives see first second v (Err Memory) h k = tt

-- an answer that hands a fault on
pub handed_on : {X A : Type 0} (see : X → A) (value : Evaluation A → Type 0) (fault : EvalFault) (r : Result X EvalFault) →
    IsErrAnd r (λ f. f ≡ fault) → Faults value fault → Gives see value r
handed_on see value fault r h k = let p = err_from_is_err_and r h in rw (p.1, p.2) k

-- expressions that are equal come to the same
pub evaluated : (ts : List Formula) (env : Variables) (a b : Expression) (r : Result Value EvalFault) → a ≡ b → Gives (shown_in ts) (Eval env b) r → Gives (shown_in ts) (Eval env a) r
evaluated ts env a b r p h = rw p h

-- and to the same fault, which is handed on
pub failed : (ts : List Formula) (env : Variables) (a b : Expression) (fault : EvalFault) (r : Result Value EvalFault) →
    IsErrAnd r (λ f. f ≡ fault) → a ≡ b → Faults (Eval env b) fault → Gives (shown_in ts) (Eval env a) r
failed ts env a b fault r h p k = handed_on (shown_in ts) (Eval env a) fault r h (rw p k)

pub valued : (env : Variables) (a b : Expression) (v : Val Formula) → a ≡ b → Eval env b (Got v) → Eval env a (Got v)
valued env a b v p h = rw p h

-- `and` and `or`, whose left side decides or doesn't
pub both_faults : (left : Evaluation Bool → Type 0) (right : Evaluation (Val Formula) → Type 0) (b : Bool) (fault : EvalFault) → b ≡ true →
    left (Got b) → Faults (Tests right) fault → Faults (Bind left (λ t. Both t right)) fault
both_faults left right true (Troubled t) p h k = goes true h (fails k)
both_faults left right false (Troubled t) p h k = absurd (false≢true p)
both_faults left right b Memory p h k = tt

pub either_faults : (left : Evaluation Bool → Type 0) (right : Evaluation (Val Formula) → Type 0) (b : Bool) (fault : EvalFault) → b ≡ false →
    left (Got b) → Faults (Tests right) fault → Faults (Bind left (λ t. Either t right)) fault
either_faults left right false (Troubled t) p h k = goes false h (fails k)
either_faults left right true (Troubled t) p h k = absurd (false≢true (sym p))
either_faults left right b Memory p h k = tt

pub both_tests : (left : Evaluation Bool → Type 0) (right : Evaluation (Val Formula) → Type 0) (b x : Bool) → b ≡ true →
    left (Got b) → Tests right (Got x) → Bind left (λ t. Both t right) (Got (truth x))
both_tests left right true x p h k = goes true h (goes x k refl)
both_tests left right false x p h k = absurd (false≢true p)

pub either_tests : (left : Evaluation Bool → Type 0) (right : Evaluation (Val Formula) → Type 0) (b x : Bool) → b ≡ false →
    left (Got b) → Tests right (Got x) → Bind left (λ t. Either t right) (Got (truth x))
either_tests left right false x p h k = goes false h (goes x k refl)
either_tests left right true x p h k = absurd (false≢true (sym p))

pub both_decided : (left : Evaluation Bool → Type 0) (right : Evaluation (Val Formula) → Type 0) (b : Bool) → b ≡ false →
    left (Got b) → Bind left (λ t. Both t right) (Got (truth false))
both_decided left right false p h = goes false h refl
both_decided left right true p h = absurd (false≢true (sym p))

pub either_decided : (left : Evaluation Bool → Type 0) (right : Evaluation (Val Formula) → Type 0) (b : Bool) → b ≡ true →
    left (Got b) → Bind left (λ t. Either t right) (Got (truth true))
either_decided left right true p h = goes true h refl
either_decided left right false p h = absurd (false≢true p)

-- what is evaluated where the variables are seen the same comes to the same
pub faults_before : (env now : Variables) (a : Expression) (fault : EvalFault) → now ≡ env → Faults (Eval now a) fault → Faults (Eval env a) fault
faults_before env now a fault p h = rw (sym p) h

pub test_faults_before : (env now : Variables) (a : Expression) (fault : EvalFault) → now ≡ env → Faults (Tests (Eval now a)) fault → Faults (Tests (Eval env a)) fault
test_faults_before env now a fault p h = rw (sym p) h

pub value_before : (env now : Variables) (a : Expression) (v : Val Formula) → now ≡ env → Eval now a (Got v) → Eval env a (Got v)
value_before env now a v p h = rw (sym p) h

pub test_before : (env now : Variables) (a : Expression) (b : Bool) → now ≡ env → Tests (Eval now a) (Got b) → Tests (Eval env a) (Got b)
test_before env now a b p h = rw (sym p) h

-- the arguments that a call is made with
pub called : (before now : List Formula) (f : Function) (arguments : List Value) (vs : List (Val FormId)) (r : Result Value EvalFault) →
    map value_of arguments ≡ vs → IsCall f before now arguments r → Gives (shown_in now) (Calls f (seen_all before (vals vs))) r
called before now f arguments vs r p h = rw (sym p) h
