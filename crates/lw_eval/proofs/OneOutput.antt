-- A script that calls no function that may choose has at most one run that isn't cut.
use Rattle.std.proofs.Common.{◌≡◌, ◌≢◌, ℕ, ◌+◌, ◌-◌, ◌<◌, ◌≤◌, Bool, true, false, List, [], ◌++◌, refl, sym, ap, ◌∙◌, subst, arith}
use Rattle.lw_formula.specs.Formula.{Formula}
use Rattle.lw_ast.specs.Trees as tree
use Rattle.lw_ast.specs.Trees.{Expression, Kind, Statement, Statements}
use Rattle.lw_value.specs.Values.{Val, Vals, empty, item}
use Rattle.lw_value.specs.Assignments.{put}
use Rattle.lw_value.proofs.OneText.{one_line}
use Rattle.lw_eval.specs.declared.trouble.Trouble.TheVariants.{StepLimit}
use Rattle.lw_eval.specs.Evaluations.{Evaluation, Got, Fails, Is, Pair}
use Rattle.lw_eval.specs.Operands.{number_in, list_in, both}
use Rattle.lw_eval.specs.Expressions.{Variables, Eval, Evals}
use Rattle.lw_eval.specs.Runs.{step_limit, Act, End, Done, Stopped, Cut, Nothing, Then, Step, With, Assigns, Prints, Turns, Repeats, numbers_from, Bounds, Choice, Does, DoesStep, Run}
use Rattle.lw_eval.specs.Private.Carried.{Condition, ListOf}
use Rattle.lw_eval.specs.Plain.{IsPlain, IsPlainKind, IsPlainStatement, ArePlainStatements}
use Rattle.lw_eval.specs.Laws.{OneOutput}
use Rattle.lw_eval.proofs.RunsCarried.{cut_not_done}
use Rattle.lw_eval.proofs.OneValue.{IsOne, got_or_else, got_is_no_trouble, one_is, one_bind, one_pair, one_tests, one_value, one_values}

-- two runs come to the same
record Same (env env2 : Variables) (k k2 : ℕ) (out out2 : List ℕ) (end end2 : End) : Type 0 where
  variables : env ≡ env2
  steps : k ≡ k2
  written : out ≡ out2
  ended : end ≡ end2

-- two runs from the same variables and steps do, if neither is cut
abbrev IsOneRun : Act → Type 0
IsOneRun act = (env e1 e2 : Variables) (k k1 k2 : ℕ) (o1 o2 : List ℕ) (d1 d2 : End) →
    act env k e1 k1 o1 d1 → act env k e2 k2 o2 d2 → d1 ≢ Cut → d2 ≢ Cut → Same e1 e2 k1 k2 o1 o2 d1 d2

done_not_cut : Done ≢ Cut
done_not_cut e = cut_not_done (sym e)

all_same : (env : Variables) (k : ℕ) (out : List ℕ) (end : End) → Same env env k k out out end end
all_same env k out end = record { variables = refl; steps = refl; written = refl; ended = refl }

moved : (act : Act) (env env2 e : Variables) (k k2 j : ℕ) (o : List ℕ) (d : End) → env ≡ env2 → k ≡ k2 → act env2 k2 e j o d → act env k e j o d
moved act env env2 e k k2 j o d p q run = subst (λ v. act v k e j o d) (sym p) (subst (λ n. act env2 n e j o d) (sym q) run)

one_nothing : IsOneRun Nothing
one_nothing env e1 e2 k k1 k2 o1 o2 d1 d2 Nothing.nothing Nothing.nothing whole whole2 = all_same env k [] Done

-- one act and then another, where it is known what the first comes to
module _ (first second : Act) (one : IsOneRun first) where
  stops_too : (env e1 e2 : Variables) (k k1 k2 : ℕ) (o1 o2 : List ℕ) (d1 d2 : End) → first env k e1 k1 o1 d1 → d1 ≢ Done → d1 ≢ Cut →
      Then first second env k e2 k2 o2 d2 → d2 ≢ Cut → Same e1 e2 k1 k2 o1 o2 d1 d2
  stops_too env e1 e2 k k1 k2 o1 o2 d1 d2 run early whole (Then.stops run2 early2) whole2 = one env e1 e2 k k1 k2 o1 o2 d1 d2 run run2 whole whole2
  stops_too env e1 e2 k k1 k2 o1 o2 d1 d2 run early whole (Then.goes run2 rest both) whole2 =
      absurd (early ((one env e1 _ k k1 _ o1 _ d1 Done run run2 whole done_not_cut).ended))

  goes_too : (env mid e1 e2 : Variables) (k m k1 k2 : ℕ) (before after o1 o2 : List ℕ) (d1 d2 : End) → first env k mid m before Done → o1 ≡ before ++ after →
      ((e : Variables) (j : ℕ) (o : List ℕ) → second mid m e j o d2 → Same e1 e k1 j after o d1 d2) →
      Then first second env k e2 k2 o2 d2 → d2 ≢ Cut → Same e1 e2 k1 k2 o1 o2 d1 d2
  goes_too env mid e1 e2 k m k1 k2 before after o1 o2 d1 d2 run both rest (Then.stops run2 early) whole2 =
      absurd (early (sym ((one env mid e2 k m k2 before o2 Done d2 run run2 done_not_cut whole2).ended)))
  goes_too env mid e1 e2 k m k1 k2 before after o1 o2 d1 d2 run both rest (Then.goes {env1 = mid2} {k1 = m2} {before = before2} {after = after2} run2 rest2 both2) whole2 =
      let same = one env mid mid2 k m m2 before before2 Done Done run run2 done_not_cut done_not_cut in
      let more = rest e2 k2 after2 (moved second mid mid2 e2 m m2 k2 after2 d2 same.variables same.steps rest2) in
      record { variables = more.variables; steps = more.steps; written = both ∙ (λ i. same.written i ++ more.written i) ∙ sym both2; ended = more.ended }

one_then : (first second : Act) → IsOneRun first → IsOneRun second → IsOneRun (Then first second)
one_then first second one other env e1 e2 k k1 k2 o1 o2 d1 d2 (Then.stops run early) run2 whole whole2 =
    stops_too first second one env e1 e2 k k1 k2 o1 o2 d1 d2 run early whole run2 whole2
one_then first second one other env e1 e2 k k1 k2 o1 o2 d1 d2 (Then.goes {env1 = mid} {k1 = m} {before = before} {after = after} run rest both) run2 whole whole2 =
    goes_too first second one env mid e1 e2 k m k1 k2 before after o1 o2 d1 d2 run both
    (λ e j o rest2. other mid e1 e m k1 j after o d1 d2 rest rest2 whole whole2) run2 whole2

-- a step, where it is known whether one is left
step_over : (line : ℕ) (act : Act) (env e : Variables) (k j : ℕ) (o : List ℕ) (d : End) → step_limit ≤ k → Step line act env k e j o d → d ≢ Cut →
    Same env e k j [] o (Stopped line StepLimit) d
step_over line act env e k j o d over Step.cut whole = absurd (whole refl)
step_over line act env e k j o d over (Step.limit l) whole = all_same env k [] (Stopped line StepLimit)
step_over line act env e k j o d over (Step.step below run) whole = let bad : ⊥ = omega (arith, over, below) in absurd bad

step_taken : (line : ℕ) (act : Act) (env e : Variables) (k j : ℕ) (o : List ℕ) (d : End) → k < step_limit → Step line act env k e j o d → d ≢ Cut →
    act env (k + 1) e j o d
step_taken line act env e k j o d below Step.cut whole = absurd (whole refl)
step_taken line act env e k j o d below (Step.limit over) whole = let bad : ⊥ = omega (arith, over, below) in absurd bad
step_taken line act env e k j o d below (Step.step l run) whole = run

one_step : (line : ℕ) (act : Act) → IsOneRun act → IsOneRun (Step line act)
one_step line act one env e1 e2 k k1 k2 o1 o2 d1 d2 Step.cut run2 whole whole2 = absurd (whole refl)
one_step line act one env e1 e2 k k1 k2 o1 o2 d1 d2 (Step.limit over) run2 whole whole2 = step_over line act env e2 k k2 o2 d2 over run2 whole2
one_step line act one env e1 e2 k k1 k2 o1 o2 d1 d2 (Step.step below run) run2 whole whole2 =
    one env e1 e2 (k + 1) k1 k2 o1 o2 d1 d2 run (step_taken line act env e2 k k2 o2 d2 below run2 whole2) whole whole2

-- the end that a trouble makes
abbrev end_of : {A : Type 0} → ℕ → Evaluation A → End
end_of line (Got v) = Done
end_of line (Fails t) = Stopped line t

-- what is done with a value, where it is known what the evaluation comes to
module _ {A : Type 0} (line : ℕ) (value : Variables → Evaluation A → Type 0) (act : A → Act) (one : (env : Variables) → IsOne (value env)) where
  in_trouble : (env e : Variables) (k j : ℕ) (o : List ℕ) (d : End) (r : Evaluation A) → value env r → ((v : A) → r ≡ Got v → ⊥) →
      With line value act env k e j o d → Same env e k j [] o (end_of line r) d
  in_trouble env e k j o d r fails never (With.trouble {t = t} h) =
      record { variables = refl; steps = refl; written = refl; ended = ap (end_of line) (one env r (Fails t) fails h) }
  in_trouble env e k j o d r fails never (With.value v h run) = absurd (never v (one env r (Got v) fails h))

  with_value : (env e : Variables) (k j : ℕ) (o : List ℕ) (d : End) (v : A) → value env (Got v) → With line value act env k e j o d → act v env k e j o d
  with_value env e k j o d v got (With.trouble {t = t} h) = absurd (got_is_no_trouble v t (one env (Got v) (Fails t) got h))
  with_value env e k j o d v got (With.value w h run) = subst (λ x. act x env k e j o d) (ap (got_or_else v) (one env (Got w) (Got v) h got)) run

  one_with : ((v : A) → IsOneRun (act v)) → IsOneRun (With line value act)
  one_with each env e1 e2 k k1 k2 o1 o2 d1 d2 (With.trouble {t = t} h) run2 whole whole2 =
      in_trouble env e2 k k2 o2 d2 (Fails t) h (λ v e. got_is_no_trouble v t (sym e)) run2
  one_with each env e1 e2 k k1 k2 o1 o2 d1 d2 (With.value v h run) run2 whole whole2 =
      each v env e1 e2 k k1 k2 o1 o2 d1 d2 run (with_value env e2 k k2 o2 d2 v h run2) whole whole2

one_assigns : (x : List ℕ) (v : Val Formula) → IsOneRun (Assigns x v)
one_assigns x v env e1 e2 k k1 k2 o1 o2 d1 d2 Assigns.assigned Assigns.assigned whole whole2 = all_same (put env x v) k [] Done

one_prints : (line : ℕ) (vs : Vals Formula) → IsOneRun (Prints line vs)
one_prints line vs env e1 e2 k k1 k2 o1 o2 d1 d2 (Prints.whole l is) (Prints.whole m is2) whole whole2 =
    record { variables = refl; steps = refl; written = one_line vs o1 o2 is is2; ended = refl }
one_prints line vs env e1 e2 k k1 k2 o1 o2 d1 d2 (Prints.whole l is) (Prints.part rest m is2 both) whole whole2 = absurd (whole2 refl)
one_prints line vs env e1 e2 k k1 k2 o1 o2 d1 d2 (Prints.whole l is) (Prints.too_long m) whole whole2 = let bad : ⊥ = omega (arith, l, m) in absurd bad
one_prints line vs env e1 e2 k k1 k2 o1 o2 d1 d2 (Prints.part rest l is both) run2 whole whole2 = absurd (whole refl)
one_prints line vs env e1 e2 k k1 k2 o1 o2 d1 d2 (Prints.too_long l) (Prints.whole m is2) whole whole2 = let bad : ⊥ = omega (arith, l, m) in absurd bad
one_prints line vs env e1 e2 k k1 k2 o1 o2 d1 d2 (Prints.too_long l) (Prints.part rest m is2 both) whole whole2 = absurd (whole2 refl)
one_prints line vs env e1 e2 k k1 k2 o1 o2 d1 d2 (Prints.too_long l) (Prints.too_long m) whole whole2 = all_same env k [] _

one_turns : (line : ℕ) (x : List ℕ) (body : Act) (vs : Vals Formula) → IsOneRun body → IsOneRun (Turns line x body vs)
one_turns line x body empty one = one_nothing
one_turns line x body (item v vs) one =
    one_then (Step line (λ env. body (put env x v))) (Turns line x body vs)
    (one_step line (λ env. body (put env x v)) (λ env. one (put env x v)))
    (one_turns line x body vs one)

-- what a `while` does: its condition, and where it is yes, a step, the body and the `while` again
abbrev Unrolled : ℕ → (Variables → Evaluation Bool → Type 0) → Act → Act
Unrolled line test body = With line test (Choice (Step line (Then body (Repeats line test body))) Nothing)

unrolled : (line : ℕ) (test : Variables → Evaluation Bool → Type 0) (body : Act) (env e : Variables) (k j : ℕ) (o : List ℕ) (d : End) →
    Repeats line test body env k e j o d → d ≢ Cut → Unrolled line test body env k e j o d
unrolled line test body env e k j o d Repeats.cut whole = absurd (whole refl)
unrolled line test body env e k j o d (Repeats.trouble h) whole = With.trouble h
unrolled line test body env e k j o d (Repeats.ends h) whole = With.value false h Nothing.nothing
unrolled line test body env e k j o d (Repeats.limit h over) whole = With.value true h (Step.limit over)
unrolled line test body env e k j o d (Repeats.stops h below run early) whole = With.value true h (Step.step below (Then.stops run early))
unrolled line test body env e k j o d (Repeats.turn h below run rest both) whole = With.value true h (Step.step below (Then.goes run rest both))

module _ (line : ℕ) (test : Variables → Evaluation Bool → Type 0) (body : Act) (one : (env : Variables) → IsOne (test env)) (one_body : IsOneRun body) where
  -- the step, where the condition is yes
  yes_too : (env e : Variables) (k j : ℕ) (o : List ℕ) (d : End) → test env (Got true) → Repeats line test body env k e j o d → d ≢ Cut →
      Step line (Then body (Repeats line test body)) env k e j o d
  yes_too env e k j o d said run whole =
      with_value line test (Choice (Step line (Then body (Repeats line test body))) Nothing) one env e k j o d true said (unrolled line test body env e k j o d run whole)

  one_repeats : IsOneRun (Repeats line test body)
  one_repeats env e1 e2 k k1 k2 o1 o2 d1 d2 Repeats.cut run2 whole whole2 = absurd (whole refl)
  one_repeats env e1 e2 k k1 k2 o1 o2 d1 d2 (Repeats.trouble {t = t} h) run2 whole whole2 =
      in_trouble line test (Choice (Step line (Then body (Repeats line test body))) Nothing) one env e2 k k2 o2 d2 (Fails t) h (λ v e. got_is_no_trouble v t (sym e))
      (unrolled line test body env e2 k k2 o2 d2 run2 whole2)
  one_repeats env e1 e2 k k1 k2 o1 o2 d1 d2 (Repeats.ends h) run2 whole whole2 =
      one_nothing env env e2 k k k2 [] o2 Done d2 Nothing.nothing
      (with_value line test (Choice (Step line (Then body (Repeats line test body))) Nothing) one env e2 k k2 o2 d2 false h (unrolled line test body env e2 k k2 o2 d2 run2 whole2))
      whole whole2
  one_repeats env e1 e2 k k1 k2 o1 o2 d1 d2 (Repeats.limit h over) run2 whole whole2 =
      step_over line (Then body (Repeats line test body)) env e2 k k2 o2 d2 over (yes_too env e2 k k2 o2 d2 h run2 whole2) whole2
  one_repeats env e1 e2 k k1 k2 o1 o2 d1 d2 (Repeats.stops h below run early) run2 whole whole2 =
      stops_too body (Repeats line test body) one_body env e1 e2 (k + 1) k1 k2 o1 o2 d1 d2 run early whole
      (step_taken line (Then body (Repeats line test body)) env e2 k k2 o2 d2 below (yes_too env e2 k k2 o2 d2 h run2 whole2) whole2) whole2
  one_repeats env e1 e2 k k1 k2 o1 o2 d1 d2 (Repeats.turn {env1 = mid} {k1 = m} {before = before} {after = after} h below run rest both) run2 whole whole2 =
      goes_too body (Repeats line test body) one_body env mid e1 e2 (k + 1) m k1 k2 before after o1 o2 d1 d2 run both
      (λ e j o rest2. one_repeats mid e1 e m k1 j after o d1 d2 rest rest2 whole whole2)
      (step_taken line (Then body (Repeats line test body)) env e2 k k2 o2 d2 below (yes_too env e2 k k2 o2 d2 h run2 whole2) whole2) whole2

one_condition : (a : Expression) → IsPlain a → (env : Variables) → IsOne (Condition a env)
one_condition a plain env = one_tests (Eval env a) (one_value env a plain)

one_bounds : (a b : Expression) → IsPlain a → IsPlain b → (env : Variables) → IsOne (Bounds a b env)
one_bounds a b plain plain2 env =
    one_bind (Pair (Eval env a) (Eval env b)) (λ v. Is (both (number_in v.0) (number_in v.1))) (one_pair (Eval env a) (Eval env b) (one_value env a plain) (one_value env b plain2))
    (λ v. one_is (both (number_in v.0) (number_in v.1)))

one_list : (a : Expression) → IsPlain a → (env : Variables) → IsOne (ListOf a env)
one_list a plain env = one_bind (Eval env a) (λ v. Is (list_in v)) (one_value env a plain) (λ v. one_is (list_in v))

one_choice : (first second : Act) → IsOneRun first → IsOneRun second → (b : Bool) → IsOneRun (Choice first second b)
one_choice first second one other true = one
one_choice first second one other false = other

mutual
  one_kind : (line : ℕ) (kind : Kind) → IsPlainKind kind → IsOneRun (Does line kind)
  one_kind line (tree.assign x a) plain = one_with line (λ env. Eval env a) (Assigns x) (λ env. one_value env a plain) (one_assigns x)
  one_kind line (tree.print es) plain = one_with line (λ env. Evals env es) (Prints line) (λ env. one_values env es plain) (one_prints line)
  one_kind line (tree.choose a first second) plain =
      one_with line (Condition a) (Choice (Run first) (Run second)) (one_condition a plain.0)
      (one_choice (Run first) (Run second) (one_run first plain.1) (one_run second plain.2))
  one_kind line (tree.count_up x a b body) plain =
      one_with line (Bounds a b) (λ n. Turns line x (Run body) (numbers_from n.0 (n.1 + 1 - n.0))) (one_bounds a b plain.0 plain.1)
      (λ n. one_turns line x (Run body) (numbers_from n.0 (n.1 + 1 - n.0)) (one_run body plain.2))
  one_kind line (tree.each x a body) plain =
      one_with line (ListOf a) (Turns line x (Run body)) (one_list a plain.0) (λ vs. one_turns line x (Run body) vs (one_run body plain.1))
  one_kind line (tree.repeat a body) plain = one_repeats line (Condition a) (Run body) (one_condition a plain.0) (one_run body plain.1)

  one_statement : (s : Statement) → IsPlainStatement s → IsOneRun (DoesStep s)
  one_statement (tree.at line kind) plain = one_step line (Does line kind) (one_kind line kind plain)

  one_run : (ss : Statements) → ArePlainStatements ss → IsOneRun (Run ss)
  one_run tree.over plain = one_nothing
  one_run (tree.then s ss) plain = one_then (DoesStep s) (Run ss) (one_statement s plain.0) (one_run ss plain.1)

pub one_output : OneOutput
one_output script out out2 end end2 plain a b =
    let same = one_run script plain [] a.env b.env 0 a.steps b.steps out out2 end end2 a.run b.run a.whole b.whole in
    (same.written, same.ended)
