-- What an answer of the program says of an evaluation, and values of the program as they are seen.
use Rattle.std.specs.Prelude.{◌≡◌, ◌<◌, ⊤, ℕ, List, map, Result, Ok, Err}
use Rattle.lw_formula.specs.declared.logic.Logic.{Logic}
use Rattle.lw_formula.specs.Formula.{Formula, letter, subformula_count}
use Rattle.lw_pool.specs.declared.id.FormId.{FormId}
use Rattle.lw_pool.specs.Region.{tree_at, IsLive}
use Rattle.lw_closure.specs.declared.fault.TheConstants.{SUBFORMULA_LIMIT}
use Rattle.lw_trace.specs.LetterlessTruth.{IsLetterless}
use Rattle.lw_trace.specs.TraceFaults.{IsFirstVariable}
use Rattle.lw_ast.specs.declared.function.Function.{Function}
use Rattle.lw_value.specs.declared.value.Value.{Value}
use Rattle.lw_value.specs.Values.{Evidence, shown_by, EachShown, certificate, Val, Vals, formula, seen, seen_all, AreLive, AreItemsLive}
use Rattle.lw_value.specs.Evidence.{HasNoCertificate}
use Rattle.lw_value.specs.Views.{value_of, values_of}
use Rattle.lw_eval.specs.declared.trouble.Trouble.{Trouble}
use Rattle.lw_eval.specs.declared.trouble.Trouble.TheVariants.{TooLarge, NotLetterless, Kind}
use Rattle.lw_eval.specs.declared.fault.EvalFault.{EvalFault}
use Rattle.lw_eval.specs.declared.fault.EvalFault.TheVariants.{Troubled, Memory}
use Rattle.lw_eval.specs.Evaluations.{Evaluation, Got, Fails}
use Rattle.lw_eval.specs.Calls.{Certifies, Calls}

-- an evaluation may come to this trouble; want of memory may come in any
abbrev pub Faults : {A : Type 0} → (Evaluation A → Type 0) → EvalFault → Type 0
Faults value (Troubled t) = value (Fails t)
Faults value Memory = ⊤

-- the formula has too many distinct subformulas, so many as the trouble says; or memory ran out
abbrev pub IsUndecided : Formula → EvalFault → Type 0
IsUndecided a (Troubled t) = (t ≡ TooLarge (subformula_count a)) × (SUBFORMULA_LIMIT < subformula_count a)
IsUndecided a Memory = ⊤

-- the trouble names the formula's first variable, or says of one without variables that it has too many distinct subformulas
abbrev pub IsTracingTrouble : Formula → Trouble → Type 0
IsTracingTrouble a (NotLetterless p) = IsFirstVariable p a
IsTracingTrouble a (TooLarge n) = IsLetterless a × (n ≡ subformula_count a) × (SUBFORMULA_LIMIT < n)
IsTracingTrouble a _ = ⊥

-- the formula has no trace here, for such a reason; or memory ran out
abbrev pub IsUntraced : Formula → EvalFault → Type 0
IsUntraced a (Troubled t) = IsTracingTrouble a t
IsUntraced a Memory = ⊤

-- an evaluation may come to what was answered, as it is seen, or to its trouble
abbrev pub Gives : {X A : Type 0} → (X → A) → (Evaluation A → Type 0) → Result X EvalFault → Type 0
Gives see value (Ok x) = value (Got (see x))
Gives see value (Err fault) = Faults value fault

-- a value of the program with the formulas of its ids
abbrev pub shown_in : List Formula → Value → Val Formula
shown_in ts v = seen ts (value_of v)

-- values one after another
abbrev pub all_shown_in : List Formula → List Value → Vals Formula
all_shown_in ts vs = seen_all ts (values_of vs)

-- the pool has each id of the value, and of each of the values
abbrev pub IsLiveIn : List Formula → Value → Type 0
IsLiveIn ts v = AreLive ts (value_of v)

abbrev pub AreLiveIn : List Formula → List Value → Type 0
AreLiveIn ts vs = AreItemsLive ts (values_of vs)

-- the answer is one that the call may come to
abbrev pub IsCall : Function → List Formula → List Formula → List Value → Result Value EvalFault → Type 0
IsCall f before now arguments result = Gives (shown_in now) (Calls f (all_shown_in before arguments)) result

-- the pool has the evidence, and with it a certificate of the formula is one that may be given
abbrev pub IsShown : Logic → List Formula → Formula → Evidence FormId → Type 0
IsShown l ts a e = EachShown (IsLive ts) e × Certifies l a (Got (certificate l a (shown_by (tree_at ts) e)))

-- variables of these names, as formulas
abbrev pub letters_of : List (List ℕ) → List (Val Formula)
letters_of names = map (λ p. formula (letter p)) names

-- the formula is no single variable
abbrev pub IsCompound : Formula → Type 0
IsCompound (letter p) = ⊥
IsCompound _ = ⊤

-- the formula is the variable of this name, or no single variable
abbrev pub IsVariable : Formula → Result (List ℕ) EvalFault → Type 0
IsVariable a (Ok p) = a ≡ letter p
IsVariable a (Err (Troubled t)) = (t ≡ Kind) × IsCompound a
IsVariable a (Err Memory) = ⊤

-- the values can't be compared, since a certificate stands in one of them; or memory ran out
abbrev pub IsIncomparable : Val Formula → Val Formula → EvalFault → Type 0
IsIncomparable v w (Troubled t) = (t ≡ Kind) × ¬ (HasNoCertificate v × HasNoCertificate w)
IsIncomparable v w Memory = ⊤
