-- What the answers of parts of a run make of the whole.
use Rattle.std.proofs.Common.{◌≡◌, ◌≢◌, ℕ, ◌+◌, ◌<◌, ◌≤◌, Bool, true, false, List, [], ◌++◌, Option, Result, Ok, Err, refl, sym, subst, append_assoc}
use Rattle.std.specs.Prelude.{⊤, OnOk}
use Rattle.lw_formula.specs.Formula.{Formula}
use Rattle.lw_read.specs.declared.pool_printer.TheConstants.{LONGEST_TEXT}
use Rattle.lw_io.specs.Output.{Adds, AddsPart}
use Rattle.lw_value.specs.Values.{Val, Vals}
use Rattle.lw_value.specs.ValueTexts.{line_measure, IsLineOf}
use Rattle.lw_value.specs.Assignments.{put}
use Rattle.lw_eval.specs.declared.run_fault.RunFault.{RunFault}
use Rattle.lw_eval.specs.declared.run_fault.RunFault.TheVariants as fault
use Rattle.lw_eval.specs.declared.trouble.Trouble.{Trouble}
use Rattle.lw_eval.specs.declared.trouble.Trouble.TheVariants.{StepLimit}
use Rattle.lw_eval.specs.Evaluations.{Evaluation, Got, Fails}
use Rattle.lw_eval.specs.Expressions.{Variables}
use Rattle.lw_ast.specs.Trees as tree
use Rattle.lw_ast.specs.Trees.{Kind, Statement, Statements}
use Rattle.lw_eval.specs.Runs.{step_limit, Turns, Does, DoesStep, Run, Act, End, Done, Stopped, Cut, Nothing, Then, Step, With, Assigns, Prints, Repeats}
use Rattle.lw_eval.specs.Ran.{IsEnd}
use Rattle.lw_eval.specs.Private.Carried.{Carries, OrCut, Leads, GivesAt}
use Rattle.lw_eval.proofs.OutputAdded.{adds_nothing, adds_both}

-- the end of a run that isn't carried out isn't Done
cut_is_not_done : (end : End) → end ≡ Cut → end ≢ Done
cut_is_not_done end is done = absurd (cc)

pub cut_not_done : Cut ≢ Done
cut_not_done = cut_is_not_done Cut refl

stop_is_not_done : (end : End) (line : ℕ) (t : Trouble) → end ≡ Stopped line t → end ≢ Done
stop_is_not_done end line t is done = absurd (cc)

fault_is_not_done : (f : RunFault) (end : End) → IsEnd (Err f) end → end ≢ Done
fault_is_not_done (fault.Stopped line t) end is = stop_is_not_done end line t is
fault_is_not_done fault.SinkFailed end is = cut_is_not_done end is
fault_is_not_done fault.Memory end is = cut_is_not_done end is

-- what is cut isn't carried out
cut_counts : (r : Result ⊤ RunFault) (k steps : ℕ) → IsEnd r Cut → OnOk r (k ≡ steps)
cut_counts (Ok x) k steps is = absurd (cut_is_not_done Cut refl is)
cut_counts (Err f) k steps is = tt

-- nothing was done, and there is no memory
pub carries_memory : (act : Act) (before after : Variables) (k steps : ℕ) (w : Option (List ℕ)) → act before k before k [] Cut → after ≡ before
    → Carries act before k after steps w w (Err fault.Memory)
carries_memory act before after k steps w run same = subst (λ (env : Variables). Carries act before k env steps w w (Err fault.Memory)) (sym same)
    (record { taken = k; out = []; end = Cut; run = run; adds = adds_nothing w; ends = refl; counts = tt })

-- nothing was done, and there is a trouble
pub carries_trouble : (act : Act) (before after : Variables) (k steps line : ℕ) (t : Trouble) (w : Option (List ℕ)) → act before k before k [] (Stopped line t) → after ≡ before
    → Carries act before k after steps w w (Err (fault.Stopped line t))
carries_trouble act before after k steps line t w run same = subst (λ (env : Variables). Carries act before k env steps w w (Err (fault.Stopped line t))) (sym same)
    (record { taken = k; out = []; end = Stopped line t; run = run; adds = adds_nothing w; ends = refl; counts = tt })

-- an evaluation's fault
pub carries_fault : (act : Act) (before after : Variables) (k steps line : ℕ) {A : Type 0} (value : Evaluation A → Type 0) (f : RunFault) (w : Option (List ℕ))
    → act before k before k [] Cut → ((t : Trouble) → value (Fails t) → act before k before k [] (Stopped line t)) → after ≡ before
    → GivesAt line (λ (x : A). x) value (Err f) → Carries act before k after steps w w (Err f)
carries_fault act before after k steps line value (fault.Stopped at t) w cut stop same gives =
    subst (λ l. Carries act before k after steps w w (Err (fault.Stopped l t))) (sym gives.0) (carries_trouble act before after k steps line t w (stop t gives.1) same)
carries_fault act before after k steps line value fault.SinkFailed w cut stop same gives = absurd gives
carries_fault act before after k steps line value fault.Memory w cut stop same gives = carries_memory act before after k steps w cut same

-- it is carried out as a part of another act
pub carries_as : (part whole : Act) (here before after : Variables) (j k steps : ℕ) (w now : Option (List ℕ)) (r : Result ⊤ RunFault)
    → ((env : Variables) (k2 : ℕ) (out : List ℕ) (end : End) → part here j env k2 out end → whole before k env k2 out end)
    → Carries part here j after steps w now r → Carries whole before k after steps w now r
carries_as part whole here before after j k steps w now r each c =
    record { taken = c.taken; out = c.out; end = c.end; run = each after c.taken c.out c.end c.run; adds = c.adds; ends = c.ends; counts = c.counts }

-- what is done with the value of an evaluation
pub carries_value : {A : Type 0} (line : ℕ) (value : Variables → Evaluation A → Type 0) (act : A → Act) (v : A) (before here after : Variables) (k steps : ℕ) (w now : Option (List ℕ)) (r : Result ⊤ RunFault)
    → value before (Got v) → here ≡ before → Carries (act v) here k after steps w now r → Carries (With line value act) before k after steps w now r
carries_value line value act v before here after k steps w now r got same c =
    let moved = subst (λ (env : Variables). Carries (act v) env k after steps w now r) same c in
    carries_as (act v) (With line value act) before before after k k steps w now r (λ env k2 out end run. With.value v got run) moved

-- the same where it may be cut before
pub carries_value_or_cut : {A : Type 0} (line : ℕ) (value : Variables → Evaluation A → Type 0) (act : A → Act) (v : A) (before here after : Variables) (k steps : ℕ) (w now : Option (List ℕ)) (r : Result ⊤ RunFault)
    → value before (Got v) → here ≡ before → Carries (OrCut (act v)) here k after steps w now r → Carries (OrCut (With line value act)) before k after steps w now r
carries_value_or_cut line value act v before here after k steps w now r got same c =
    let moved = subst (λ (env : Variables). Carries (OrCut (act v)) env k after steps w now r) same c in
    carries_as (OrCut (act v)) (OrCut (With line value act)) before before after k k steps w now r (value_or_cut line value act v before k got) moved
  where
    value_or_cut : {A : Type 0} (line : ℕ) (value : Variables → Evaluation A → Type 0) (act : A → Act) (v : A) (before : Variables) (k : ℕ) → value before (Got v)
        → (env : Variables) (k2 : ℕ) (out : List ℕ) (end : End) → OrCut (act v) before k env k2 out end → OrCut (With line value act) before k env k2 out end
    value_or_cut line value act v before k got env k2 out end OrCut.cut_first = OrCut.cut_first
    value_or_cut line value act v before k got env k2 out end (OrCut.does run) = OrCut.does (With.value v got run)

-- an act that isn't cut before it
pub carries_does : (act : Act) (before after : Variables) (k steps : ℕ) (w now : Option (List ℕ)) (r : Result ⊤ RunFault)
    → Carries act before k after steps w now r → Carries (OrCut act) before k after steps w now r
carries_does act before after k steps w now r c = carries_as act (OrCut act) before before after k k steps w now r (λ env k2 out end run. OrCut.does run) c

-- the variable is given the value
pub carries_assigned : (x : List ℕ) (v : Val Formula) (before after : Variables) (k : ℕ) (w : Option (List ℕ)) → after ≡ put before x v
    → Carries (Assigns x v) before k after k w w (Ok tt)
carries_assigned x v before after k w same = subst (λ (env : Variables). Carries (Assigns x v) before k env k w w (Ok tt)) (sym same)
    (record { taken = k; out = []; end = Done; run = Assigns.assigned; adds = adds_nothing w; ends = refl; counts = refl })

-- the line is written whole
pub carries_printed : (line : ℕ) (vs : Vals Formula) (text : List ℕ) (env : Variables) (k : ℕ) (w now : Option (List ℕ))
    → line_measure vs ≤ LONGEST_TEXT → IsLineOf vs text → Adds w now text → Carries (OrCut (Prints line vs)) env k env k w now (Ok tt)
carries_printed line vs text env k w now measure is adds =
    record { taken = k; out = text; end = Done; run = OrCut.does (Prints.whole measure is); adds = adds; ends = refl; counts = refl }

-- a first part of it is written
pub carries_part : (line : ℕ) (vs : Vals Formula) (text : List ℕ) (env : Variables) (k : ℕ) (w now : Option (List ℕ))
    → line_measure vs ≤ LONGEST_TEXT → IsLineOf vs text → AddsPart w now text → Carries (OrCut (Prints line vs)) env k env k w now (Err fault.SinkFailed)
carries_part line vs text env k w now measure is part =
    record { taken = k; out = part.0; end = Cut; run = OrCut.does (Prints.part part.1 measure is part.2); adds = part.3; ends = refl; counts = tt }

step_taken : (line : ℕ) (act : Act) (before : Variables) (k : ℕ) (after : Variables) (taken : ℕ) (out : List ℕ) (end : End) (steps : ℕ) (w now : Option (List ℕ)) (r : Result ⊤ RunFault)
    → k < step_limit → OrCut act before (k + 1) after taken out end → Adds w now out → IsEnd r end → OnOk r (taken ≡ steps) → Carries (Step line act) before k after steps w now r
step_taken line act before k after taken out end steps w now r below OrCut.cut_first adds ends counts =
    record { taken = k; out = []; end = Cut; run = Step.cut; adds = adds; ends = ends; counts = cut_counts r k steps ends }
step_taken line act before k after taken out end steps w now r below (OrCut.does run) adds ends counts =
    record { taken = taken; out = out; end = end; run = Step.step below run; adds = adds; ends = ends; counts = counts }

-- a step is taken before the act
pub carries_step : (line : ℕ) (act : Act) (before after : Variables) (k j steps : ℕ) (w now : Option (List ℕ)) (r : Result ⊤ RunFault)
    → k < step_limit → j ≡ k + 1 → Carries (OrCut act) before j after steps w now r → Carries (Step line act) before k after steps w now r
carries_step line act before after k j steps w now r below next c =
    step_taken line act before k after c.taken c.out c.end steps w now r below (subst (λ n. OrCut act before n after c.taken c.out c.end) next c.run) c.adds c.ends c.counts

-- a turn: the step, the value for the variable, and the body
pub carries_turn : (line : ℕ) (x : List ℕ) (v : Val Formula) (body : Act) (before here after : Variables) (k j steps : ℕ) (w now : Option (List ℕ)) (r : Result ⊤ RunFault)
    → k < step_limit → j ≡ k + 1 → here ≡ put before x v → Carries body here j after steps w now r
    → Carries (Step line (λ env. body (put env x v))) before k after steps w now r
carries_turn line x v body before here after k j steps w now r below next same c =
    carries_step line (λ env. body (put env x v)) before after k j steps w now r below next
    (carries_as body (OrCut (λ env. body (put env x v))) here before after j j steps w now r
    (λ env k2 out end run. OrCut.does (subst (λ (e : Variables). body e j env k2 out end) same run)) c)

-- nothing is left to do
pub leads_start : (act : Act) (env : Variables) (k : ℕ) (w : Option (List ℕ)) → Leads act act env k env k w w
leads_start act env k w = record { done = []; adds = adds_nothing w; leads = λ after k2 out end run. run }

-- the rest is carried out
pub leads_last : (whole rest : Act) (before here after : Variables) (k j steps : ℕ) (w now last : Option (List ℕ)) (r : Result ⊤ RunFault)
    → Leads whole rest before k here j w now → Carries rest here j after steps now last r → Carries whole before k after steps w last r
leads_last whole rest before here after k j steps w now last r l c =
    record {
      taken = c.taken;
      out = l.done ++ c.out;
      end = c.end;
      run = l.leads after c.taken c.out c.end c.run;
      adds = adds_both w now last l.done c.out l.adds c.adds;
      ends = c.ends;
      counts = c.counts;
    }

pub carries_nothing : (env : Variables) (k : ℕ) (w : Option (List ℕ)) → Carries Nothing env k env k w w (Ok tt)
carries_nothing env k w = record { taken = k; out = []; end = Done; run = Nothing.nothing; adds = adds_nothing w; ends = refl; counts = refl }

-- nothing is left to do
pub leads_over : (whole : Act) (before here : Variables) (k j : ℕ) (w now : Option (List ℕ))
    → Leads whole Nothing before k here j w now → Carries whole before k here j w now (Ok tt)
leads_over whole before here k j w now l = leads_last whole Nothing before here here k j j w now now (Ok tt) l (carries_nothing here j now)

-- the first part of the rest ends the whole
pub leads_stop : (whole first rest : Act) (before here after : Variables) (k j steps : ℕ) (w now last : Option (List ℕ)) (f : RunFault)
    → Leads whole (Then first rest) before k here j w now → Carries first here j after steps now last (Err f) → Carries whole before k after steps w last (Err f)
leads_stop whole first rest before here after k j steps w now last f l c =
    leads_last whole (Then first rest) before here after k j steps w now last (Err f) l
    (record { taken = c.taken; out = c.out; end = c.end; run = Then.stops c.run (fault_is_not_done f c.end c.ends); adds = c.adds; ends = c.ends; counts = c.counts })

done_run : (act : Act) (here after : Variables) (j taken steps : ℕ) (out : List ℕ) (end : End) → end ≡ Done → taken ≡ steps → act here j after taken out end → act here j after steps out Done
done_run act here after j taken steps out end is same run =
    subst (λ (e : End). act here j after steps out e) is (subst (λ n. act here j after n out end) same run)

-- a part is carried out, after which what is left makes up what was left before
pub leads_on : (whole part rest left : Act) (before here after : Variables) (k i j steps : ℕ) (w now last : Option (List ℕ))
    → ((out : List ℕ) → part here i after steps out Done → (end2 : Variables) (k2 : ℕ) (more : List ℕ) (end : End) → rest after steps end2 k2 more end → left here j end2 k2 (out ++ more) end)
    → Leads whole left before k here j w now → Carries part here i after steps now last (Ok tt) → Leads whole rest before k after steps w last
leads_on whole part rest left before here after k i j steps w now last joins l c =
    record {
      done = l.done ++ c.out;
      adds = adds_both w now last l.done c.out l.adds c.adds;
      leads = λ env k2 out end run. subst (λ o. whole before k env k2 o end) (sym (append_assoc l.done c.out out))
          (l.leads env k2 (c.out ++ out) end (joins c.out (done_run part here after i c.taken steps c.out c.end c.ends c.counts c.run) env k2 out end run));
    }

-- the first part of the rest is carried out
pub leads_next : (whole first rest : Act) (before here after : Variables) (k j steps : ℕ) (w now last : Option (List ℕ))
    → Leads whole (Then first rest) before k here j w now → Carries first here j after steps now last (Ok tt) → Leads whole rest before k after steps w last
leads_next whole first rest before here after k j steps w now last l c =
    leads_on whole first rest (Then first rest) before here after k j j steps w now last (λ out run env k2 more end next. Then.goes run next refl) l c

-- one more turn of a `while`
module _ (line : ℕ) (test : Variables → Evaluation Bool → Type 0) (body : Act) where
  pub while_ends : (here after : Variables) (k : ℕ) (w : Option (List ℕ)) → test here (Got false) → after ≡ here → Carries (Repeats line test body) here k after k w w (Ok tt)
  while_ends here after k w over same = subst (λ (env : Variables). Carries (Repeats line test body) here k env k w w (Ok tt)) (sym same)
      (record { taken = k; out = []; end = Done; run = Repeats.ends over; adds = adds_nothing w; ends = refl; counts = refl })

  pub while_stops : (here there after : Variables) (k j steps : ℕ) (w now : Option (List ℕ)) (f : RunFault)
      → test here (Got true) → k < step_limit → j ≡ k + 1 → there ≡ here → Carries body there j after steps w now (Err f) → Carries (Repeats line test body) here k after steps w now (Err f)
  while_stops here there after k j steps w now f holds below next same c =
      record {
        taken = c.taken;
        out = c.out;
        end = c.end;
        adds = c.adds;
        ends = c.ends;
        counts = c.counts;
        run = Repeats.stops holds below (subst (λ (e : Variables). body e (k + 1) after c.taken c.out c.end) same (subst (λ n. body there n after c.taken c.out c.end) next c.run)) (fault_is_not_done f c.end c.ends);
      }

  pub while_turn : (whole : Act) (before here there after : Variables) (k i j steps : ℕ) (w now last : Option (List ℕ))
      → test here (Got true) → i < step_limit → j ≡ i + 1 → there ≡ here
      → Leads whole (Repeats line test body) before k here i w now → Carries body there j after steps now last (Ok tt) → Leads whole (Repeats line test body) before k after steps w last
  while_turn whole before here there after k i j steps w now last holds below next same l c =
      leads_on whole body (Repeats line test body) (Repeats line test body) before here after k j i steps w now last
      (λ out run env k2 more end again. Repeats.turn holds below (subst (λ n. body here n after steps out Done) next run) again refl) l
      (subst (λ (e : Variables). Carries body e j after steps now last (Ok tt)) same c)

-- no step is left
pub carries_limit : (act : Act) (before after : Variables) (k steps line : ℕ) (f : RunFault) (w : Option (List ℕ)) → act before k before k [] (Stopped line StepLimit)
    → f ≡ fault.Stopped line StepLimit → after ≡ before → Carries act before k after steps w w (Err f)
carries_limit act before after k steps line f w run is same =
    subst (λ g. Carries act before k after steps w w (Err g)) (sym is) (carries_trouble act before after k steps line StepLimit w run same)

-- the last part of the whole
pub leads_final : (whole first : Act) (before here after : Variables) (k j steps : ℕ) (w now last : Option (List ℕ)) (r : Result ⊤ RunFault)
    → Leads whole (Then first Nothing) before k here j w now → Carries first here j after steps now last r → Carries whole before k after steps w last r
leads_final whole first before here after k j steps w now last (Ok tt) l c =
    leads_over whole before after k steps w last (leads_next whole first Nothing before here after k j steps w now last l c)
leads_final whole first before here after k j steps w now last (Err f) l c = leads_stop whole first Nothing before here after k j steps w now last f l c

-- the act is this one
pub carries_kind : (line : ℕ) (s kind : Kind) (before after : Variables) (k steps : ℕ) (w now : Option (List ℕ)) (r : Result ⊤ RunFault)
    → kind ≡ s → Carries (OrCut (Does line s)) before k after steps w now r → Carries (OrCut (Does line kind)) before k after steps w now r
carries_kind line s kind before after k steps w now r is c = subst (λ (q : Kind). Carries (OrCut (Does line q)) before k after steps w now r) (sym is) c

pub carries_statement : (line : ℕ) (kind : Kind) (s : Statement) (before after : Variables) (k steps : ℕ) (w now : Option (List ℕ)) (r : Result ⊤ RunFault)
    → s ≡ tree.at line kind → Carries (Step line (Does line kind)) before k after steps w now r → Carries (DoesStep s) before k after steps w now r
carries_statement line kind s before after k steps w now r is c = subst (λ (q : Statement). Carries (DoesStep q) before k after steps w now r) (sym is) c

-- what is left of statements, and of turns, is this
pub leads_statements : (whole : Act) (ss rest : Statements) (before here : Variables) (k j : ℕ) (w now : Option (List ℕ))
    → ss ≡ rest → Leads whole (Run ss) before k here j w now → Leads whole (Run rest) before k here j w now
leads_statements whole ss rest before here k j w now is l = subst (λ (q : Statements). Leads whole (Run q) before k here j w now) is l

pub leads_turns : (whole : Act) (line : ℕ) (x : List ℕ) (body : Act) (vs rest : Vals Formula) (before here : Variables) (k j : ℕ) (w now : Option (List ℕ))
    → vs ≡ rest → Leads whole (Turns line x body vs) before k here j w now → Leads whole (Turns line x body rest) before k here j w now
leads_turns whole line x body vs rest before here k j w now is l = subst (λ (q : Vals Formula). Leads whole (Turns line x body q) before k here j w now) is l
