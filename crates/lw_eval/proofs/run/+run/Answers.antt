use Rattle.std.proofs.Common.{◌≡◌, ◌+◌, ◌-◌, true, false, List, Ok, Err, drop, refl, sym, ap, subst, ◌∙◌, arith}
use Rattle.lw_ast.specs.Trees as tree
use Rattle.lw_ast.specs.Trees.{Kind, Statement, Statements}
use Rattle.lw_ast.specs.ScriptViews.{expression, statement, statements, kind}
use Rattle.lw_formula.specs.Formula.{Formula}
use Rattle.lw_pool.proofs.RegionGrowth.{Grows-trans}
use Rattle.lw_value.specs.Values.{Vals, vals, seen, seen_all, number, empty, item, AreLive}
use Rattle.lw_value.specs.Evidence.{HasEvidence, HaveEvidence}
use Rattle.lw_value.specs.Assignments.{put, variables_seen, AreVariablesLive}
use Rattle.lw_value.specs.Views.{value_of}
use Rattle.lw_value.proofs.VariablesSeen.{put_seen, put_live, put_evidence}
use Rattle.lw_eval.specs.Evaluations.{Got}
use Rattle.lw_eval.specs.Runs.{Step, Then, With, Turns, Repeats, Choice, Bounds, Does, DoesStep, Run, numbers_from}
use Rattle.lw_eval.specs.Private.Given.{shown_in}
use Rattle.lw_eval.specs.Private.Carried.{Condition, ListOf, Carries, OrCut, statements_from}
use Rattle.lw_eval.proofs.EvidenceKept.{run_keeps, statement_keeps, turn_keeps, list_items_evident}
use Rattle.lw_eval.proofs.RunsCarried.{cut_not_done, carries_kind, carries_statement, carries_memory, carries_fault, carries_value, carries_does, carries_step, carries_turn, carries_limit, carries_nothing, leads_last, leads_over, leads_stop, leads_next, leads_final, leads_statements, leads_turns, while_ends, while_stops, while_turn}
use Rattle.lw_eval.proofs.StatementsSeen.{assign_seen, print_seen, choose_seen, count_up_seen, each_seen, repeat_seen, statement_seen}
use Rattle.lw_eval.proofs.TurnsLeft.{statement_left, no_statement_left, statement_smaller, number_left, last_number_left, no_number_left, item_left, no_item_left, item_live_then, item_seen_then, item_evidence_then}
use Rattle.lw_eval.proofs.run.+run.Goals as goal

pub choose-returns-in-Ok-true-clause-run : goal.choose-returns-in-Ok-true-clause-run
choose-returns-in-Ok-true-clause-run g t c = carries_does _ _ _ _ _ _ _ _
    (carries_value c.args.line (Condition (expression c.args.test.now)) (Choice (Run (statements c.args.first.now)) (Run (statements c.args.second.now))) true _ _ _ _ _ _ _ _
    (subst (λ b. Condition (expression c.args.test.now) (variables_seen c.args.pool.now c.args.env.now) (Got b)) c.in-Ok-true.field-0-test c.in-Ok-true.ensures.value)
    c.in-Ok-true.ensures.same c.run_block.ensures.run)

pub choose-returns-in-Ok-false-clause-run : goal.choose-returns-in-Ok-false-clause-run
choose-returns-in-Ok-false-clause-run g t c = carries_does _ _ _ _ _ _ _ _
    (carries_value c.args.line (Condition (expression c.args.test.now)) (Choice (Run (statements c.args.first.now)) (Run (statements c.args.second.now))) false _ _ _ _ _ _ _ _
    (subst (λ b. Condition (expression c.args.test.now) (variables_seen c.args.pool.now c.args.env.now) (Got b)) c.in-Ok-false.field-0-test c.in-Ok-false.ensures.value)
    c.in-Ok-false.ensures.same c.run_block-in-Ok-false.ensures.run)

pub choose-returns-in-Err-clause-run : goal.choose-returns-in-Err-clause-run
choose-returns-in-Err-clause-run g t c = carries_fault _ _ _ _ _ c.args.line (Condition (expression c.args.test.now) (variables_seen c.args.pool.now c.args.env.now)) c.in-Err.fault _
    OrCut.cut_first (λ t gives. OrCut.does (With.trouble gives)) c.in-Err.ensures.same c.in-Err.ensures.value

pub count_up-returns-in-Ok-clause-run : goal.count_up-returns-in-Ok-clause-run
count_up-returns-in-Ok-clause-run g t c = carries_does _ _ _ _ _ _ _ _
    (carries_value c.args.line (Bounds (expression c.args.from.now) (expression c.args.to.now))
    (λ n. Turns c.args.line c.args.name.now (Run (statements c.args.body.now)) (numbers_from n.0 (n.1 + 1 - n.0))) (c.in-Ok.from, c.in-Ok.to) _ _ _ _ _ _ _ _
    c.in-Ok.ensures.value c.in-Ok.ensures.same c.turns_to.ensures.run)

pub count_up-returns-in-Err-clause-run : goal.count_up-returns-in-Err-clause-run
count_up-returns-in-Err-clause-run g t c = carries_fault _ _ _ _ _ c.args.line (Bounds (expression c.args.from.now) (expression c.args.to.now) (variables_seen c.args.pool.now c.args.env.now)) c.in-Err.fault _
    OrCut.cut_first (λ t gives. OrCut.does (With.trouble gives)) c.in-Err.ensures.same c.in-Err.ensures.value

pub do_stmt-returns-in-Assign-clause-run : goal.do_stmt-returns-in-Assign-clause-run
do_stmt-returns-in-Assign-clause-run g t c = carries_kind c.args.line _ _ _ _ _ _ _ _ _ (assign_seen c.args.stmt.now c.in-Assign.name c.in-Assign.value c.in-Assign.is) (c.assign.ensures.run c.args.steps.now (g.K.Sink.written c.args.sink.now))

pub do_stmt-returns-in-Print-clause-run : goal.do_stmt-returns-in-Print-clause-run
do_stmt-returns-in-Print-clause-run g t c =
    subst (λ (ts : List Formula). Carries (OrCut (Does c.args.line (kind c.args.stmt.now))) (variables_seen c.args.pool.now c.args.env.now) c.args.steps.now
    (variables_seen ts c.args.env.now) c.args.steps.now (g.K.Sink.written c.args.sink.now) (g.K.Sink.written c.print.new.sink) c.print.result) (sym c.print.ensures.same)
    (carries_kind c.args.line _ _ _ _ _ _ _ _ _ (print_seen c.args.stmt.now c.in-Print.values c.in-Print.is) (c.print.ensures.run c.args.steps.now))

pub do_stmt-returns-in-If-clause-run : goal.do_stmt-returns-in-If-clause-run
do_stmt-returns-in-If-clause-run g t c = carries_kind c.args.line _ _ _ _ _ _ _ _ _ (choose_seen c.args.stmt.now c.in-If.test c.in-If.first c.in-If.second c.in-If.is) c.choose.ensures.run

pub do_stmt-returns-in-Count-clause-run : goal.do_stmt-returns-in-Count-clause-run
do_stmt-returns-in-Count-clause-run g t c = carries_kind c.args.line _ _ _ _ _ _ _ _ _ (count_up_seen c.args.stmt.now c.in-Count.name c.in-Count.from c.in-Count.to c.in-Count.body c.in-Count.is) c.count_up.ensures.run

pub do_stmt-returns-in-Each-clause-run : goal.do_stmt-returns-in-Each-clause-run
do_stmt-returns-in-Each-clause-run g t c = carries_kind c.args.line _ _ _ _ _ _ _ _ _ (each_seen c.args.stmt.now c.in-Each.name c.in-Each.list c.in-Each.body c.in-Each.is) c.each.ensures.run

pub do_stmt-returns-in-While-clause-run : goal.do_stmt-returns-in-While-clause-run
do_stmt-returns-in-While-clause-run g t c = carries_kind c.args.line _ _ _ _ _ _ _ _ _ (repeat_seen c.args.stmt.now c.in-While.test c.in-While.body c.in-While.is) (carries_does _ _ _ _ _ _ _ _ c.repeat.ensures.run)

pub each-turns_of-requires : goal.each-turns_of-requires
each-turns_of-requires g t c κs lives = (
  omega (arith, c.decreases),
  (
    lives,
    (
      c.in-Ok.ensures.kept,
      (
        subst HaveEvidence (sym c.in-Ok.ensures.same) c.requires.evidence,
        (
          c.requires.steps,
          (
            c.in-Ok.ensures.live,
            list_items_evident (expression c.args.list.now) (variables_seen c.args.pool.now c.args.env.now) _ c.requires.evidence c.in-Ok.ensures.value,
          ),
        ),
      ),
    ),
  ),
)

pub each-returns-in-Ok-clause-run : goal.each-returns-in-Ok-clause-run
each-returns-in-Ok-clause-run g t c = carries_does _ _ _ _ _ _ _ _
    (carries_value c.args.line (ListOf (expression c.args.list.now)) (Turns c.args.line c.args.name.now (Run (statements c.args.body.now)))
    (seen_all c.list_at.new.pool (vals c.in-Ok.items)) _ _ _ _ _ _ _ _ c.in-Ok.ensures.value c.in-Ok.ensures.same c.turns_of.ensures.run)

pub each-returns-in-Err-clause-run : goal.each-returns-in-Err-clause-run
each-returns-in-Err-clause-run g t c = carries_fault _ _ _ _ _ c.args.line (ListOf (expression c.args.list.now) (variables_seen c.args.pool.now c.args.env.now)) c.in-Err.fault _
    OrCut.cut_first (λ t gives. OrCut.does (With.trouble gives)) c.in-Err.ensures.same c.in-Err.ensures.value

pub repeat-returns-in-Ok-false-clause-run : goal.repeat-returns-in-Ok-false-clause-run
repeat-returns-in-Ok-false-clause-run g t c = leads_last (Repeats c.args.line (Condition (expression c.args.test.now)) (Run (statements c.args.body.now))) (Repeats c.args.line (Condition (expression c.args.test.now)) (Run (statements c.args.body.now))) _ _ _ _ _ _ _ _ _ _ c.turns.invariant.leads
    (while_ends c.args.line (Condition (expression c.args.test.now)) (Run (statements c.args.body.now)) _ _ _ _ (subst (λ b. Condition (expression c.args.test.now) (variables_seen c.turns.pool c.turns.env) (Got b)) c.in-Ok-false.field-0-test c.in-Ok-false.ensures.value) c.in-Ok-false.ensures.same)

pub repeat-returns-in-Err-clause-run : goal.repeat-returns-in-Err-clause-run
repeat-returns-in-Err-clause-run g t c = leads_last (Repeats c.args.line (Condition (expression c.args.test.now)) (Run (statements c.args.body.now))) (Repeats c.args.line (Condition (expression c.args.test.now)) (Run (statements c.args.body.now))) _ _ _ _ _ _ _ _ _ _ c.turns.invariant.leads
    (carries_fault (Repeats c.args.line (Condition (expression c.args.test.now)) (Run (statements c.args.body.now))) _ _ _ _ c.args.line (Condition (expression c.args.test.now) (variables_seen c.turns.pool c.turns.env)) c.in-Err.fault _ Repeats.cut (λ t gives. Repeats.trouble gives) c.in-Err.ensures.same c.in-Err.ensures.value)

pub repeat-returns-in-Err-step-clause-run : goal.repeat-returns-in-Err-step-clause-run
repeat-returns-in-Err-step-clause-run g t c = leads_last (Repeats c.args.line (Condition (expression c.args.test.now)) (Run (statements c.args.body.now))) (Repeats c.args.line (Condition (expression c.args.test.now)) (Run (statements c.args.body.now))) _ _ _ _ _ _ _ _ _ _ c.turns.invariant.leads
    (carries_limit (Repeats c.args.line (Condition (expression c.args.test.now)) (Run (statements c.args.body.now))) _ _ _ _ c.args.line c.in-Err-step.fault _ (Repeats.limit (subst (λ b. Condition (expression c.args.test.now) (variables_seen c.turns.pool c.turns.env) (Got b)) c.in-Ok-true.field-0-test c.in-Ok-true.ensures.value) c.in-Err-step.ensures.0) c.in-Err-step.ensures.2 c.in-Ok-true.ensures.same)

pub repeat-turns-preserved : goal.repeat-turns-preserved
repeat-turns-preserved g t c = record {
  live = c.in-Ok-run_block.ensures.live;
  evidence = run_keeps (statements c.args.body.now) _ _ _ _ _ _ c.in-Ok-run_block.ensures.run.run (subst HaveEvidence (sym c.in-Ok-true.ensures.same) c.turns.invariant.evidence);
  grows = Grows-trans _ _ _ (Grows-trans _ _ _ c.turns.invariant.grows c.in-Ok-true.ensures.grows) c.in-Ok-run_block.ensures.grows;
  steps = c.in-Ok-run_block.ensures.steps;
  more = omega (arith, c.turns.invariant.more, c.in-Ok-run_block.ensures.more, c.in-Ok.ensures.1);
  later = omega (arith, c.turns.invariant.later, c.in-Ok-run_block.ensures.later);
  leads = while_turn c.args.line (Condition (expression c.args.test.now)) (Run (statements c.args.body.now)) (Repeats c.args.line (Condition (expression c.args.test.now)) (Run (statements c.args.body.now))) _ _ _ _ _ _ _ _ _ _ _ (subst (λ b. Condition (expression c.args.test.now) (variables_seen c.turns.pool c.turns.env) (Got b)) c.in-Ok-true.field-0-test c.in-Ok-true.ensures.value) c.in-Ok.ensures.0 c.in-Ok.ensures.1 c.in-Ok-true.ensures.same c.turns.invariant.leads c.in-Ok-run_block.ensures.run;
}

pub repeat-returns-in-Err-run_block-clause-run : goal.repeat-returns-in-Err-run_block-clause-run
repeat-returns-in-Err-run_block-clause-run g t c = leads_last (Repeats c.args.line (Condition (expression c.args.test.now)) (Run (statements c.args.body.now))) (Repeats c.args.line (Condition (expression c.args.test.now)) (Run (statements c.args.body.now))) _ _ _ _ _ _ _ _ _ _ c.turns.invariant.leads
    (while_stops c.args.line (Condition (expression c.args.test.now)) (Run (statements c.args.body.now)) _ _ _ _ _ _ _ _ c.in-Err-run_block.fault (subst (λ b. Condition (expression c.args.test.now) (variables_seen c.turns.pool c.turns.env) (Got b)) c.in-Ok-true.field-0-test c.in-Ok-true.ensures.value) c.in-Ok.ensures.0 c.in-Ok.ensures.1 c.in-Ok-true.ensures.same c.in-Err-run_block.ensures.run)

pub run_block-run_stmt-requires : goal.run_block-run_stmt-requires
run_block-run_stmt-requires g t c κs lives =
    (omega (arith, c.decreases, statement_smaller (statements c.args.block.now) c.loop-i.i (statement c.get.result.now) c.get.ensures), (lives, (c.loop-i.invariant.live, (c.loop-i.invariant.evidence, c.loop-i.invariant.steps))))

pub run_block-returns-in-Err-clause-run : goal.run_block-returns-in-Err-clause-run
run_block-returns-in-Err-clause-run g t c = leads_stop (Run (statements c.args.block.now)) (DoesStep (statement c.get.result.now)) (Run (statements_from (c.loop-i.i + 1) (statements c.args.block.now))) _ _ _ _ _ _ _ _ _ c.in-Err.fault
    (leads_statements (Run (statements c.args.block.now)) _ _ _ _ _ _ _ _ (statement_left (statements c.args.block.now) c.loop-i.i (statement c.get.result.now) c.get.ensures) c.loop-i.invariant.leads) c.in-Err.ensures.run

pub run_block-loop-i-preserved : goal.run_block-loop-i-preserved
run_block-loop-i-preserved g t c = record {
  live = c.in-Ok.ensures.live;
  evidence = statement_keeps (statement c.get.result.now) _ _ _ _ _ _ c.in-Ok.ensures.run.run c.loop-i.invariant.evidence;
  grows = Grows-trans _ _ _ c.loop-i.invariant.grows c.in-Ok.ensures.grows;
  steps = c.in-Ok.ensures.steps;
  more = omega (arith, c.loop-i.invariant.more, c.in-Ok.ensures.more);
  later = omega (arith, c.loop-i.invariant.later, c.in-Ok.ensures.later);
  leads = leads_next (Run (statements c.args.block.now)) (DoesStep (statement c.get.result.now)) (Run (statements_from (c.loop-i.i + 1) (statements c.args.block.now))) _ _ _ _ _ _ _ _ _
      (leads_statements (Run (statements c.args.block.now)) _ _ _ _ _ _ _ _ (statement_left (statements c.args.block.now) c.loop-i.i (statement c.get.result.now) c.get.ensures) c.loop-i.invariant.leads) c.in-Ok.ensures.run;
}

pub run_block-returns-clause-run : goal.run_block-returns-clause-run
run_block-returns-clause-run g t c = leads_over (Run (statements c.args.block.now)) _ _ _ _ _ _
    (leads_statements (Run (statements c.args.block.now)) _ tree.over _ _ _ _ _ _ (no_statement_left (statements c.args.block.now) c.loop-i.i (omega (arith, c.count-i-end.ensures))) c.loop-i.invariant.leads)

pub run_stmt-returns-in-Ok-clause-run : goal.run_stmt-returns-in-Ok-clause-run
run_stmt-returns-in-Ok-clause-run g t c = carries_statement c.args.stmt.now.line (kind c.args.stmt.now.kind) (statement c.args.stmt.now) _ _ _ _ _ _ _ (statement_seen c.args.stmt.now)
    (carries_step c.args.stmt.now.line (Does c.args.stmt.now.line (kind c.args.stmt.now.kind)) _ _ _ _ _ _ _ _ c.in-Ok.ensures.0 c.in-Ok.ensures.1 c.do_stmt.ensures.run)

pub run_stmt-returns-in-Err-clause-run : goal.run_stmt-returns-in-Err-clause-run
run_stmt-returns-in-Err-clause-run g t c = carries_statement c.args.stmt.now.line (kind c.args.stmt.now.kind) (statement c.args.stmt.now) _ _ _ _ _ _ _ (statement_seen c.args.stmt.now)
    (carries_limit (Step c.args.stmt.now.line (Does c.args.stmt.now.line (kind c.args.stmt.now.kind))) _ _ _ _ c.args.stmt.now.line c.in-Err.fault _ (Step.limit c.in-Err.ensures.0) c.in-Err.ensures.2 refl)

pub turn-returns-in-Err-clause-run : goal.turn-returns-in-Err-clause-run
turn-returns-in-Err-clause-run g t c = carries_limit (Step c.args.line (λ env. Run (statements c.args.body.now) (put env c.args.name.now (shown_in c.args.pool.now c.args.value)))) _ _ _ _ c.args.line c.in-Err.fault _ (Step.limit c.in-Err.ensures.0) c.in-Err.ensures.2 refl

pub turn-run_block-requires : goal.turn-run_block-requires
turn-run_block-requires g t c κs lives = (
  omega (arith, c.decreases),
  (
    lives,
    (
      subst (AreVariablesLive c.args.pool.now) (sym c.in-Ok-set.ensures.set) (put_live c.args.pool.now c.args.env.now c.args.name.now (value_of c.args.value) c.requires.live c.requires.value_live),
      (
        subst HaveEvidence (sym (ap (variables_seen c.args.pool.now) c.in-Ok-set.ensures.set ∙ put_seen c.args.pool.now c.args.env.now c.args.name.now (value_of c.args.value))) (put_evidence (variables_seen c.args.pool.now c.args.env.now) c.args.name.now (shown_in c.args.pool.now c.args.value) c.requires.evidence c.requires.value_evidence),
        omega (arith, c.in-Ok.ensures.0, c.in-Ok.ensures.1),
      ),
    ),
  ),
)

pub turn-returns-in-Ok-set-clause-run : goal.turn-returns-in-Ok-set-clause-run
turn-returns-in-Ok-set-clause-run g t c = carries_turn c.args.line c.args.name.now (shown_in c.args.pool.now c.args.value) (Run (statements c.args.body.now)) _ _ _ _ _ _ _ _ _
    c.in-Ok.ensures.0 c.in-Ok.ensures.1 (ap (variables_seen c.args.pool.now) c.in-Ok-set.ensures.set ∙ put_seen c.args.pool.now c.args.env.now c.args.name.now (value_of c.args.value)) c.run_block.ensures.run

pub turn-returns-in-Err-set-clause-run : goal.turn-returns-in-Err-set-clause-run
turn-returns-in-Err-set-clause-run g t c = carries_memory (Step c.args.line (λ env. Run (statements c.args.body.now) (put env c.args.name.now (shown_in c.args.pool.now c.args.value)))) _ _ _ _ _ Step.cut (ap (variables_seen c.args.pool.now) c.in-Err-set.ensures.failed)

pub turns_of-returns-in_default-clause-run : goal.turns_of-returns-in_default-clause-run
turns_of-returns-in_default-clause-run g t c = leads_last (Turns c.args.line c.args.name.now (Run (statements c.args.body.now)) (seen_all c.args.pool.now (vals c.args.items.now))) (Then (Step c.args.line (λ env. Run (statements c.args.body.now) (put env c.args.name.now (seen c.args.pool.now (value_of c.get.result.now))))) (Turns c.args.line c.args.name.now (Run (statements c.args.body.now)) (seen_all c.args.pool.now (vals (drop (c.loop-i.i + 1) c.args.items.now))))) _ _ _ _ _ _ _ _ _ _ (leads_turns (Turns c.args.line c.args.name.now (Run (statements c.args.body.now)) (seen_all c.args.pool.now (vals c.args.items.now))) c.args.line c.args.name.now (Run (statements c.args.body.now)) _ _ _ _ _ _ _ _ (item_left c.args.pool.now c.args.items.now c.loop-i.i (value_of c.get.result.now) c.get.ensures) c.loop-i.invariant.leads)
    (carries_memory (Then (Step c.args.line (λ env. Run (statements c.args.body.now) (put env c.args.name.now (seen c.args.pool.now (value_of c.get.result.now))))) (Turns c.args.line c.args.name.now (Run (statements c.args.body.now)) (seen_all c.args.pool.now (vals (drop (c.loop-i.i + 1) c.args.items.now))))) _ _ _ _ _ (Then.stops Step.cut cut_not_done) refl)

pub turns_of-turn-requires : goal.turns_of-turn-requires
turns_of-turn-requires g t c κs lives =
    let is : value_of c.in-Ok.item ≡ (value_of c.get.result.now) = c.in-Ok.ensures in (
      omega (arith, c.decreases),
      (
        lives,
        (
          c.loop-i.invariant.live,
          (
            c.loop-i.invariant.evidence,
            (
              c.loop-i.invariant.steps,
              (
                subst (AreLive c.loop-i.pool) (sym is) (item_live_then c.args.pool.now c.loop-i.pool c.args.items.now c.loop-i.i (value_of c.get.result.now) c.loop-i.invariant.grows c.get.ensures c.requires.items_live),
                subst (λ v. HasEvidence (seen c.loop-i.pool v)) (sym is)
                    (item_evidence_then c.args.pool.now c.loop-i.pool c.args.items.now c.loop-i.i (value_of c.get.result.now) c.loop-i.invariant.grows c.get.ensures c.requires.items_live c.requires.items_evidence),
              ),
            ),
          ),
        ),
      ),
    )

pub turns_of-returns-in-Err-clause-run : goal.turns_of-returns-in-Err-clause-run
turns_of-returns-in-Err-clause-run g t c = leads_stop (Turns c.args.line c.args.name.now (Run (statements c.args.body.now)) (seen_all c.args.pool.now (vals c.args.items.now))) (Step c.args.line (λ env. Run (statements c.args.body.now) (put env c.args.name.now (seen c.args.pool.now (value_of c.get.result.now))))) (Turns c.args.line c.args.name.now (Run (statements c.args.body.now)) (seen_all c.args.pool.now (vals (drop (c.loop-i.i + 1) c.args.items.now)))) _ _ _ _ _ _ _ _ _ c.in-Err.fault
    (leads_turns (Turns c.args.line c.args.name.now (Run (statements c.args.body.now)) (seen_all c.args.pool.now (vals c.args.items.now))) c.args.line c.args.name.now (Run (statements c.args.body.now)) _ _ _ _ _ _ _ _ (item_left c.args.pool.now c.args.items.now c.loop-i.i (value_of c.get.result.now) c.get.ensures) c.loop-i.invariant.leads)
    (subst (λ v. Carries (Step c.args.line (λ env. Run (statements c.args.body.now) (put env c.args.name.now v))) (variables_seen c.loop-i.pool c.loop-i.env) c.loop-i.steps
    (variables_seen c.turn.new.pool c.turn.new.env) c.turn.new.steps (g.K.Sink.written c.loop-i.sink) (g.K.Sink.written c.turn.new.sink) (Err c.in-Err.fault)) (ap (seen c.loop-i.pool) c.in-Ok.ensures ∙ item_seen_then c.args.pool.now c.loop-i.pool c.args.items.now c.loop-i.i (value_of c.get.result.now) c.loop-i.invariant.grows c.get.ensures c.requires.items_live) c.in-Err.ensures.run)

pub turns_of-loop-i-preserved : goal.turns_of-loop-i-preserved
turns_of-loop-i-preserved g t c = record {
  live = c.in-Ok-turn.ensures.live;
  evidence = turn_keeps c.args.line c.args.name.now (shown_in c.loop-i.pool c.in-Ok.item) (Run (statements c.args.body.now)) (run_keeps (statements c.args.body.now))
      (subst (λ v. HasEvidence (seen c.loop-i.pool v)) (sym c.in-Ok.ensures)
      (item_evidence_then c.args.pool.now c.loop-i.pool c.args.items.now c.loop-i.i (value_of c.get.result.now) c.loop-i.invariant.grows c.get.ensures c.requires.items_live c.requires.items_evidence))
      _ _ _ _ _ _ c.in-Ok-turn.ensures.run.run c.loop-i.invariant.evidence;
  grows = Grows-trans _ _ _ c.loop-i.invariant.grows c.in-Ok-turn.ensures.grows;
  steps = c.in-Ok-turn.ensures.steps;
  more = omega (arith, c.loop-i.invariant.more, c.in-Ok-turn.ensures.more);
  later = omega (arith, c.loop-i.invariant.later, c.in-Ok-turn.ensures.later);
  leads = leads_next (Turns c.args.line c.args.name.now (Run (statements c.args.body.now)) (seen_all c.args.pool.now (vals c.args.items.now))) (Step c.args.line (λ env. Run (statements c.args.body.now) (put env c.args.name.now (seen c.args.pool.now (value_of c.get.result.now))))) (Turns c.args.line c.args.name.now (Run (statements c.args.body.now)) (seen_all c.args.pool.now (vals (drop (c.loop-i.i + 1) c.args.items.now)))) _ _ _ _ _ _ _ _ _
      (leads_turns (Turns c.args.line c.args.name.now (Run (statements c.args.body.now)) (seen_all c.args.pool.now (vals c.args.items.now))) c.args.line c.args.name.now (Run (statements c.args.body.now)) _ _ _ _ _ _ _ _ (item_left c.args.pool.now c.args.items.now c.loop-i.i (value_of c.get.result.now) c.get.ensures) c.loop-i.invariant.leads)
      (subst (λ v. Carries (Step c.args.line (λ env. Run (statements c.args.body.now) (put env c.args.name.now v))) (variables_seen c.loop-i.pool c.loop-i.env) c.loop-i.steps
      (variables_seen c.turn.new.pool c.turn.new.env) c.turn.new.steps (g.K.Sink.written c.loop-i.sink) (g.K.Sink.written c.turn.new.sink) (Ok tt)) (ap (seen c.loop-i.pool) c.in-Ok.ensures ∙ item_seen_then c.args.pool.now c.loop-i.pool c.args.items.now c.loop-i.i (value_of c.get.result.now) c.loop-i.invariant.grows c.get.ensures c.requires.items_live) c.in-Ok-turn.ensures.run);
}

pub turns_of-returns-clause-run : goal.turns_of-returns-clause-run
turns_of-returns-clause-run g t c = leads_over (Turns c.args.line c.args.name.now (Run (statements c.args.body.now)) (seen_all c.args.pool.now (vals c.args.items.now))) _ _ _ _ _ _
    (leads_turns (Turns c.args.line c.args.name.now (Run (statements c.args.body.now)) (seen_all c.args.pool.now (vals c.args.items.now))) c.args.line c.args.name.now (Run (statements c.args.body.now)) _ empty _ _ _ _ _ _ (no_item_left c.args.pool.now c.args.items.now c.loop-i.i (omega (arith, c.count-i-end.ensures))) c.loop-i.invariant.leads)

pub turns_to-returns-then-to-from-clause-run : goal.turns_to-returns-then-to-from-clause-run
turns_to-returns-then-to-from-clause-run g t c = subst (λ (vs : Vals Formula). Carries (Turns c.args.line c.args.name.now (Run (statements c.args.body.now)) vs) (variables_seen c.args.pool.now c.args.env.now) c.args.steps.now (variables_seen c.args.pool.now c.args.env.now) c.args.steps.now (g.K.Sink.written c.args.sink.now) (g.K.Sink.written c.args.sink.now) (Ok tt))
    (sym (no_number_left c.args.from c.args.to (omega arith))) (carries_nothing _ _ _)

pub turns_to-returns-in-Err-clause-run : goal.turns_to-returns-in-Err-clause-run
turns_to-returns-in-Err-clause-run g t c = leads_stop (Turns c.args.line c.args.name.now (Run (statements c.args.body.now)) (numbers_from c.args.from (c.args.to + 1 - c.args.from))) (Step c.args.line (λ env. Run (statements c.args.body.now) (put env c.args.name.now (number c.loop-number.number)))) (Turns c.args.line c.args.name.now (Run (statements c.args.body.now)) (numbers_from (c.loop-number.number + 1) (c.args.to + 1 - (c.loop-number.number + 1)))) _ _ _ _ _ _ _ _ _ c.in-Err.fault
    (leads_turns (Turns c.args.line c.args.name.now (Run (statements c.args.body.now)) (numbers_from c.args.from (c.args.to + 1 - c.args.from))) c.args.line c.args.name.now (Run (statements c.args.body.now)) _ _ _ _ _ _ _ _ (number_left c.loop-number.number c.args.to (omega arith)) c.loop-number.invariant.leads) c.in-Err.ensures.run

pub turns_to-loop-number-preserved : goal.turns_to-loop-number-preserved
turns_to-loop-number-preserved g t c = record {
  live = c.in-Ok.ensures.live;
  evidence = turn_keeps c.args.line c.args.name.now (number c.loop-number.number) (Run (statements c.args.body.now)) (run_keeps (statements c.args.body.now)) tt _ _ _ _ _ _ c.in-Ok.ensures.run.run c.loop-number.invariant.evidence;
  grows = Grows-trans _ _ _ c.loop-number.invariant.grows c.in-Ok.ensures.grows;
  steps = c.in-Ok.ensures.steps;
  more = omega (arith, c.loop-number.invariant.more, c.in-Ok.ensures.more);
  later = omega (arith, c.loop-number.invariant.later, c.in-Ok.ensures.later);
  leads = leads_next (Turns c.args.line c.args.name.now (Run (statements c.args.body.now)) (numbers_from c.args.from (c.args.to + 1 - c.args.from))) (Step c.args.line (λ env. Run (statements c.args.body.now) (put env c.args.name.now (number c.loop-number.number)))) (Turns c.args.line c.args.name.now (Run (statements c.args.body.now)) (numbers_from (c.loop-number.number + 1) (c.args.to + 1 - (c.loop-number.number + 1)))) _ _ _ _ _ _ _ _ _
      (leads_turns (Turns c.args.line c.args.name.now (Run (statements c.args.body.now)) (numbers_from c.args.from (c.args.to + 1 - c.args.from))) c.args.line c.args.name.now (Run (statements c.args.body.now)) _ _ _ _ _ _ _ _ (number_left c.loop-number.number c.args.to (omega arith)) c.loop-number.invariant.leads) c.in-Ok.ensures.run;
}

pub turns_to-returns-clause-run : goal.turns_to-returns-clause-run
turns_to-returns-clause-run g t c =
    leads_final (Turns c.args.line c.args.name.now (Run (statements c.args.body.now)) (numbers_from c.args.from (c.args.to + 1 - c.args.from))) (Step c.args.line (λ env. Run (statements c.args.body.now) (put env c.args.name.now (number c.args.to)))) _ _ _ _ _ _ _ _ _ _
    (leads_turns (Turns c.args.line c.args.name.now (Run (statements c.args.body.now)) (numbers_from c.args.from (c.args.to + 1 - c.args.from))) c.args.line c.args.name.now (Run (statements c.args.body.now)) _ (item (number c.args.to) empty) _ _ _ _ _ _
    (ap (λ n. numbers_from n (c.args.to + 1 - n)) (omega arith) ∙ last_number_left c.args.to) c.loop-number.invariant.leads)
    c.turn-2.ensures.run
