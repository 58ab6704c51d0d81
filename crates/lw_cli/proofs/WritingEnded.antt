-- What a report makes of what was written before it.
use Rattle.std.proofs.Common.{◌≡◌, ◌≢◌, ℕ, ◌<◌, ◌≤◌, List, [], ◌++◌, length, Option, Result, Ok, Err, IfOk, inl, inr, refl, sym, subst, ap, ◌∙◌, append_assoc}
use Rattle.std.proofs.lemmas.List.{append-nil}
use Rattle.std.specs.Prelude.{⊤, OnErr, IsErrOf}
use Rattle.lw_io.specs.Output.{Adds, AddsPart}
use Rattle.lw_formula.specs.Formula.{Formula}
use Rattle.lw_pool.specs.declared.id.FormId.{FormId}
use Rattle.lw_value.specs.Values.{Val}
use Rattle.lw_value.specs.Assignments.{variables_seen}
use Rattle.lw_ast.specs.Trees.{Statements}
use Rattle.lw_ast.specs.ScriptFaults.{ReadsAsScript}
use Rattle.lw_eval.specs.declared.run_fault.RunFault.{RunFault}
use Rattle.lw_eval.specs.declared.run_fault.RunFault.TheVariants as fault
use Rattle.lw_eval.specs.declared.trouble.Trouble.{Trouble}
use Rattle.lw_eval.specs.Expressions.{Variables}
use Rattle.lw_eval.specs.Runs.{End, Done, Stopped, Cut, Run}
use Rattle.lw_eval.specs.Outputs.{Allows, Begins}
use Rattle.lw_eval.specs.Ran.{Ran}
use Rattle.lw_eval.proofs.OutputAdded.{adds_nothing, adds_both}
use Rattle.lw_cli.specs.declared.report.Report.{Report}
use Rattle.lw_cli.specs.declared.report.ReportFault.{ReportFault}
use Rattle.lw_cli.specs.FileLimit.{file_limit}
use Rattle.lw_cli.specs.FaultLines.{file_limit_line, trouble_line}
use Rattle.lw_cli.specs.RunOutcomes.{RunOutcome, RunBegins, too_long, done, stopped}
use Rattle.lw_cli.specs.Private.ReportSteps.{Reports, WrotePart, IsShort, ScriptOutcome, carried, troubled, IsFaultReport}

-- a piece, and then a first part of another
adds_part_behind : (a b c : Option (List ℕ)) (p q : List ℕ) → Adds a b p → AddsPart b c q → AddsPart a c (p ++ q)
adds_part_behind a b c p q first (part, rest, is, adds) =
    (p ++ part, rest, ap (λ l. p ++ l) is ∙ sym (append_assoc p part rest), adds_both a b c p part first adds)

-- the line of the report was written in part
pub wrote_part : (outcome : List ℕ → ℕ → Type 0) (before here now : Option (List ℕ)) (report : Report) → Reports outcome before here report
    → AddsPart here now report.line.items → WrotePart outcome before now
wrote_part outcome before here now report reports part = record {
  out = reports.out ++ report.line.items;
  status = report.status;
  written = adds_part_behind before here now reports.out report.line.items reports.written part;
  allowed = reports.allowed;
}

-- nothing was written before the report
pub reports_alone : (outcome : List ℕ → ℕ → Type 0) (w : Option (List ℕ)) (report : Report) → outcome report.line.items report.status → Reports outcome w w report
reports_alone outcome w report allowed = record { out = []; written = adds_nothing w; allowed = allowed }

-- no ends of runs but Cut are Cut
done_is_whole : Done ≢ Cut
done_is_whole is = absurd (cc)

stop_is_whole : (line : ℕ) (t : Trouble) → Stopped line t ≢ Cut
stop_is_whole line t is = absurd (cc)

-- the run begins without variables
pub ran_from_none : (s : Statements) (ts : List Formula) (env : List (List ℕ × Val FormId)) (after : Variables) (before now : Option (List ℕ)) (r : Result ⊤ RunFault)
    → env ≡ [] → Ran (Run s) (variables_seen ts env) after before now r → Ran (Run s) [] after before now r
ran_from_none s ts env after before now r none ran = subst (λ e. Ran (Run s) (variables_seen ts e) after before now r) none ran

pub stopped_from_none : (s : Statements) (ts : List Formula) (env : List (List ℕ × Val FormId)) (after : Variables) (before now : Option (List ℕ)) (f : RunFault) (line : ℕ) (t : Trouble)
    → env ≡ [] → f ≡ fault.Stopped line t → Ran (Run s) (variables_seen ts env) after before now (Err f) → Ran (Run s) [] after before now (Err (fault.Stopped line t))
stopped_from_none s ts env after before now f line t none is ran =
    subst (λ e. Ran (Run s) [] after before now (Err e)) is (ran_from_none s ts env after before now (Err f) none ran)

allows : (s : Statements) (after : Variables) (before now : Option (List ℕ)) (r : Result ⊤ RunFault) (end : End) (ran : Ran (Run s) [] after before now r) → ran.end ≡ end → end ≢ Cut → Allows s ran.out end
allows s after before now r end ran is whole = record { env = after; steps = ran.steps; run = subst (λ e. Run s [] 0 after ran.steps ran.out e) is ran.run; whole = whole }

-- it was carried out, and there is nothing to say
pub reports_carried : (s : Statements) (after : Variables) (before now : Option (List ℕ)) (x : ⊤) (report : Report) → Ran (Run s) [] after before now (Ok x)
    → report.line.items ≡ [] → report.status ≡ 0 → Reports (ScriptOutcome s) before now report
reports_carried s after before now x report ran none zero = record {
  out = ran.out;
  written = ran.adds;
  allowed = subst (λ status. ScriptOutcome s (ran.out ++ report.line.items) status) (sym zero)
      (subst (λ l. ScriptOutcome s l 0) (sym (ap (λ l. ran.out ++ l) none ∙ append-nil ran.out)) (carried ran.out (allows s after before now (Ok x) Done ran ran.ends done_is_whole)));
}

-- it ended in a trouble, which is to be said
pub reports_trouble : (s : Statements) (after : Variables) (before now : Option (List ℕ)) (line : ℕ) (t : Trouble) (report : Report) → Ran (Run s) [] after before now (Err (fault.Stopped line t))
    → IsFaultReport (trouble_line line t) report → Reports (ScriptOutcome s) before now report
reports_trouble s after before now line t report ran is = record {
  out = ran.out;
  written = ran.adds;
  allowed = subst (λ status. ScriptOutcome s (ran.out ++ report.line.items) status) (sym is.ending)
      (subst (λ l. ScriptOutcome s (ran.out ++ l) 1) (sym is.says)
      (troubled ran.out line t (allows s after before now (Err (fault.Stopped line t)) (Stopped line t) ran ran.ends (stop_is_whole line t))));
}

-- it ended in a trouble, for whose line there is no memory
part_of_trouble : (s : Statements) (after : Variables) (before now : Option (List ℕ)) (line : ℕ) (t : Trouble) → Ran (Run s) [] after before now (Err (fault.Stopped line t))
    → WrotePart (ScriptOutcome s) before now
part_of_trouble s after before now line t ran = record {
  out = ran.out ++ trouble_line line t;
  status = 1;
  written = (ran.out, trouble_line line t, refl, ran.adds);
  allowed = troubled ran.out line t (allows s after before now (Err (fault.Stopped line t)) (Stopped line t) ran ran.ends (stop_is_whole line t));
}

pub short_of_trouble : (s : Statements) (after : Variables) (before now : Option (List ℕ)) (line : ℕ) (t : Trouble) (r : Result Report ReportFault) → Ran (Run s) [] after before now (Err (fault.Stopped line t))
    → OnErr r (IsShort (ScriptOutcome s) (Begins s) before now)
short_of_trouble s after before now line t (Ok report) ran = tt
short_of_trouble s after before now line t (Err e) ran = inl (part_of_trouble s after before now line t ran)

-- the file is too long
pub reports_limit : (bytes : List ℕ) (w : Option (List ℕ)) (report : Report) → file_limit < length bytes → IsFaultReport file_limit_line report → Reports (RunOutcome bytes) w w report
reports_limit bytes w report long is = reports_alone (RunOutcome bytes) w report
    (subst (λ status. RunOutcome bytes report.line.items status) (sym is.ending) (subst (λ l. RunOutcome bytes l 1) (sym is.says) (too_long long)))

-- the script is that of the file
run_of_script : (bytes : List ℕ) (s : Statements) (out : List ℕ) (status : ℕ) → length bytes ≤ file_limit → ReadsAsScript bytes s → ScriptOutcome s out status → RunOutcome bytes out status
run_of_script bytes s _ _ short reads (carried out a) = done s out short reads a
run_of_script bytes s _ _ short reads (troubled out line t a) = stopped s out line t short reads a

pub reports_of_script : (bytes : List ℕ) (s : Statements) (before now : Option (List ℕ)) (r : Result Report ReportFault) → length bytes ≤ file_limit → ReadsAsScript bytes s
    → IfOk r (Reports (ScriptOutcome s) before now) → IfOk r (Reports (RunOutcome bytes) before now)
reports_of_script bytes s before now (Err e) short reads says = tt
reports_of_script bytes s before now (Ok report) short reads says = record {
  out = says.out;
  written = says.written;
  allowed = run_of_script bytes s (says.out ++ report.line.items) report.status short reads says.allowed;
}

short_of_script : (bytes : List ℕ) (s : Statements) (before now : Option (List ℕ)) → length bytes ≤ file_limit → ReadsAsScript bytes s
    → IsShort (ScriptOutcome s) (Begins s) before now → IsShort (RunOutcome bytes) (RunBegins bytes) before now
short_of_script bytes s before now short reads (inl part) =
    inl (record { out = part.out; status = part.status; written = part.written; allowed = run_of_script bytes s part.out part.status short reads part.allowed })
short_of_script bytes s before now short reads (inr begun) =
    inr (record { out = begun.out; written = begun.written; is_begun = record { script = s; short = short; reads = reads; begins = begun.is_begun } })

pub short_of_fault : (bytes : List ℕ) (s : Statements) (before now : Option (List ℕ)) (r : Result Report ReportFault) (e : ReportFault) → length bytes ≤ file_limit → ReadsAsScript bytes s
    → OnErr r (IsShort (ScriptOutcome s) (Begins s) before now) → IsErrOf r e → IsShort (RunOutcome bytes) (RunBegins bytes) before now
short_of_fault bytes s before now r e short reads says is =
    short_of_script bytes s before now short reads (subst (λ x. OnErr x (IsShort (ScriptOutcome s) (Begins s) before now)) is says)
