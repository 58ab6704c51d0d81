-- What `trace` and `letterless` give, as their rows have it.
use Rattle.std.proofs.Common.{◌≡◌, ◌∙◌, ℕ, zero, suc, ◌+◌, ◌≤◌, ◌<◌, Bool, List, [], ◌∷◌, ◌++◌, length, take, slice_index_or, Result, Ok, Err, map, refl, sym, ap, subst, arith}
use Rattle.std.proofs.lemmas.List.{take_all}
use Rattle.lw_formula.specs.Formula.{Formula, subformula_count}
use Rattle.lw_pool.specs.declared.id.FormId.{FormId}
use Rattle.lw_closure.specs.declared.fault.TheConstants.{SUBFORMULA_LIMIT}
use Rattle.lw_trace.specs.LetterlessTruth.{TruthByHeight, IsLetterless, trace_of}
use Rattle.lw_trace.specs.LetterlessForm.{letterless_of}
use Rattle.lw_value.specs.declared.value.Value.{Value}
use Rattle.lw_value.specs.Values.{Val, vals, seen_all, AreItemsLive, formula, truth, number, item}
use Rattle.lw_eval.specs.declared.trouble.Trouble.TheVariants.{TextLimit, TooLarge, NoInterpolants, NotModalised, TooManyBoxes, NotIntuitionistic, NotLetterless, Unbound, Kind, Range, StepLimit}
use Rattle.lw_eval.specs.declared.fault.EvalFault.{EvalFault}
use Rattle.lw_eval.specs.declared.fault.EvalFault.TheVariants.{Troubled, Memory}
use Rattle.lw_eval.specs.Evaluations.{Evaluation, Got, Is}
use Rattle.lw_eval.specs.Operators.{list_of}
use Rattle.lw_eval.specs.Calls.{Decided, Traced, trace_values}
use Rattle.lw_eval.specs.Private.Given.{Faults, Gives, IsUntraced, shown_in}

-- numbers are seen as they are, whatever the pool has
numbers_seen : (ts : List Formula) (ns : List ℕ) → seen_all ts (vals (map number ns)) ≡ vals (map number ns)
numbers_seen ts [] = refl
numbers_seen ts (n ∷ ns) = ap (item (number n)) (numbers_seen ts ns)

trace_seen : (ts : List Formula) (b : Bool) (ns : List ℕ) → seen_all ts (vals (truth b ∷ map number ns)) ≡ vals (truth b ∷ map number ns)
trace_seen ts b ns = ap (item (truth b)) (numbers_seen ts ns)

-- numbers as values
abbrev numbers_of : List ℕ → List (Val FormId)
numbers_of ns = map number ns

-- those up to the next one
up_to_next : (xs : List ℕ) (i : ℕ) → i < length xs → numbers_of (take (suc i) xs) ≡ numbers_of (take i xs) ++ number (slice_index_or xs i 0) ∷ []
up_to_next [] i within = absurd (omega (arith, within))
up_to_next (x ∷ xs) zero within = refl
up_to_next (x ∷ xs) (suc i) within = ap (λ vs. number x ∷ vs) (up_to_next xs i (omega (arith, within)))

pub next_height : (b : Bool) (xs : List ℕ) (i : ℕ) (before after : List (Val FormId)) → i < length xs → before ≡ truth b ∷ map number (take i xs) → after ≡ before ++ number (slice_index_or xs i 0) ∷ []
    → after ≡ truth b ∷ map number (take (i + 1) xs)
next_height b xs i before after within are pushed =
    let next : suc i ≡ i + 1 = omega arith in
    subst (λ n. after ≡ truth b ∷ map number (take n xs)) next
    (pushed ∙ ap (λ vs. vs ++ number (slice_index_or xs i 0) ∷ []) are ∙ ap (λ vs. truth b ∷ vs) (sym (up_to_next xs i within)))

pub all_heights : (b : Bool) (xs heights : List ℕ) (i : ℕ) (all : List (Val FormId)) → length xs ≤ i → xs ≡ heights → all ≡ truth b ∷ map number (take i xs) → all ≡ truth b ∷ map number heights
all_heights b xs heights i all end same are = are ∙ ap (λ ns. truth b ∷ map number ns) (take_all i xs end ∙ same)

-- the pool has each id of the list, since there are none
numbers_live : (ts : List Formula) (ns : List ℕ) → AreItemsLive ts (vals (numbers_of ns))
numbers_live ts [] = tt
numbers_live ts (n ∷ ns) = (tt, numbers_live ts ns)

pub trace_live : (ts : List Formula) (b : Bool) (ns : List ℕ) (vs : List (Val FormId)) → vs ≡ truth b ∷ map number ns → AreItemsLive ts (vals vs)
trace_live ts b ns vs are = subst (λ ws. AreItemsLive ts (vals ws)) (sym are) (tt, numbers_live ts ns)

-- the list of the values
pub trace_gives : (a : Formula) (ts : List Formula) (t : TruthByHeight) (vs : List (Val FormId)) (r : Result Value EvalFault) → t ≡ trace_of a → IsLetterless a → subformula_count a ≤ SUBFORMULA_LIMIT
    → vs ≡ truth t.rest ∷ map number t.heights → Gives (shown_in ts) (Is (list_of (seen_all ts (vals vs)))) r → Gives (shown_in ts) (Traced a (Decided a (Is (list_of (vals (trace_values a)))))) r
trace_gives a ts t vs r told plain few are gives = with_answer r gives
  where
    same : seen_all ts (vals vs) ≡ vals (trace_values a)
    same = ap (λ ws. seen_all ts (vals ws)) are ∙ trace_seen ts t.rest t.heights ∙ ap (λ u. vals (truth u.rest ∷ map number u.heights)) told

    with_answer : (r : Result Value EvalFault) → Gives (shown_in ts) (Is (list_of (seen_all ts (vals vs)))) r → Gives (shown_in ts) (Traced a (Decided a (Is (list_of (vals (trace_values a)))))) r
    with_answer (Ok v) h = Traced.traced plain (Decided.decided few (h ∙ ap list_of same))
    with_answer (Err (Troubled u)) h = Traced.traced plain (Decided.decided few (h ∙ ap list_of same))
    with_answer (Err Memory) h = tt

-- the normal form
pub form_gives : (a x : Formula) → x ≡ letterless_of a → IsLetterless a → subformula_count a ≤ SUBFORMULA_LIMIT → Traced a (Decided a (Is (Got (formula (letterless_of a))))) (Got (formula x))
form_gives a x is plain few = Traced.traced plain (Decided.decided few (ap (λ y. Got (formula y)) is))

-- the refusal
pub untraced_faults : (a : Formula) (answer : Evaluation (Val Formula) → Type 0) (fault : EvalFault) → IsUntraced a fault → Faults (Traced a (Decided a answer)) fault
untraced_faults a answer (Troubled (NotLetterless p)) h = Traced.lettered p h
untraced_faults a answer (Troubled (TooLarge n)) h = rw h.1 (Traced.traced h.0 (Decided.too_large (rw (sym h.1) h.2)))
untraced_faults a answer (Troubled TextLimit) h = absurd h
untraced_faults a answer (Troubled (NoInterpolants l)) h = absurd h
untraced_faults a answer (Troubled NotModalised) h = absurd h
untraced_faults a answer (Troubled (TooManyBoxes n)) h = absurd h
untraced_faults a answer (Troubled (NotIntuitionistic what)) h = absurd h
untraced_faults a answer (Troubled (Unbound x)) h = absurd h
untraced_faults a answer (Troubled Kind) h = absurd h
untraced_faults a answer (Troubled Range) h = absurd h
untraced_faults a answer (Troubled StepLimit) h = absurd h
untraced_faults a answer Memory h = tt
