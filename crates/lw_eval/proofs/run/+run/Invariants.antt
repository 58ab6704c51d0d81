use Rattle.std.proofs.Common.{◌≤◌, ◌+◌, ◌-◌, ◌*◌, drop}
use Rattle.lw_pool.specs.Region.{Grows}
use Rattle.lw_ast.specs.ScriptViews.{expression, statement, statements, kind}
use Rattle.lw_value.specs.Values.{vals, seen_all}
use Rattle.lw_value.specs.Evidence.{HaveEvidence}
use Rattle.lw_value.specs.Assignments.{variables_seen, AreVariablesLive}
use Rattle.lw_eval.specs.Runs.{step_limit, Turns, Repeats, Run, numbers_from}
use Rattle.lw_eval.specs.Private.Sizes.{kind_size, statement_size, statements_size}
use Rattle.lw_eval.specs.Private.Carried.{Condition, Leads, statements_from}
use Rattle.lw_eval.proofs.run.+run.Given as goal

abbrev pub decreases-run_block : goal.decreases-run_block
decreases-run_block g l = 6 * statements_size (statements l.block.now)

abbrev pub decreases-run_stmt : goal.decreases-run_stmt
decreases-run_stmt g l = 6 * statement_size (statement l.stmt.now)

abbrev pub decreases-do_stmt : goal.decreases-do_stmt
decreases-do_stmt g l = 6 * kind_size (kind l.stmt.now) + 5

abbrev pub decreases-choose : goal.decreases-choose
decreases-choose g l = 6 * (statements_size (statements l.first.now) + statements_size (statements l.second.now)) + 4

abbrev pub decreases-count_up : goal.decreases-count_up
decreases-count_up g l = 6 * statements_size (statements l.body.now) + 4

abbrev pub decreases-turns_to : goal.decreases-turns_to
decreases-turns_to g l = 6 * statements_size (statements l.body.now) + 3

abbrev pub decreases-each : goal.decreases-each
decreases-each g l = 6 * statements_size (statements l.body.now) + 4

abbrev pub decreases-turns_of : goal.decreases-turns_of
decreases-turns_of g l = 6 * statements_size (statements l.body.now) + 3

abbrev pub decreases-repeat : goal.decreases-repeat
decreases-repeat g l = 6 * statements_size (statements l.body.now) + 4

abbrev pub decreases-turn : goal.decreases-turn
decreases-turn g l = 6 * statements_size (statements l.body.now) + 2

-- the statements from the i-th on are left
abbrev pub invariant-run_block-loop-i : goal.invariant-run_block-loop-i
invariant-run_block-loop-i g l = record {
  live : AreVariablesLive l.pool l.env;
  evidence : HaveEvidence (variables_seen l.pool l.env);
  grows : Grows l.fn.pool l.pool;
  steps : l.steps ≤ step_limit;
  more : l.fn.steps ≤ l.steps;
  later : g.K.Sink.faults l.fn.sink ≤ g.K.Sink.faults l.sink;
  leads : Leads (Run (statements l.block)) (Run (statements_from l.i (statements l.block)))
      (variables_seen l.fn.pool l.fn.env) l.fn.steps (variables_seen l.pool l.env) l.steps (g.K.Sink.written l.fn.sink) (g.K.Sink.written l.sink);
}

-- the turns from this number on are left
abbrev pub invariant-turns_to-loop-number : goal.invariant-turns_to-loop-number
invariant-turns_to-loop-number g l = record {
  live : AreVariablesLive l.pool l.env;
  evidence : HaveEvidence (variables_seen l.pool l.env);
  grows : Grows l.fn.pool l.pool;
  steps : l.steps ≤ step_limit;
  more : l.fn.steps ≤ l.steps;
  later : g.K.Sink.faults l.fn.sink ≤ g.K.Sink.faults l.sink;
  leads : Leads (Turns l.line l.name (Run (statements l.body)) (numbers_from l.from (l.to + 1 - l.from))) (Turns l.line l.name (Run (statements l.body)) (numbers_from l.number (l.to + 1 - l.number)))
      (variables_seen l.fn.pool l.fn.env) l.fn.steps (variables_seen l.pool l.env) l.steps (g.K.Sink.written l.fn.sink) (g.K.Sink.written l.sink);
}

-- the turns of the items from the i-th on are left
abbrev pub invariant-turns_of-loop-i : goal.invariant-turns_of-loop-i
invariant-turns_of-loop-i g l = record {
  live : AreVariablesLive l.pool l.env;
  evidence : HaveEvidence (variables_seen l.pool l.env);
  grows : Grows l.fn.pool l.pool;
  steps : l.steps ≤ step_limit;
  more : l.fn.steps ≤ l.steps;
  later : g.K.Sink.faults l.fn.sink ≤ g.K.Sink.faults l.sink;
  leads : Leads (Turns l.line l.name (Run (statements l.body)) (seen_all l.fn.pool (vals l.items))) (Turns l.line l.name (Run (statements l.body)) (seen_all l.fn.pool (vals (drop l.i l.items))))
      (variables_seen l.fn.pool l.fn.env) l.fn.steps (variables_seen l.pool l.env) l.steps (g.K.Sink.written l.fn.sink) (g.K.Sink.written l.sink);
}

-- as at the first turn
abbrev pub invariant-repeat-turns : goal.invariant-repeat-turns
invariant-repeat-turns g l = record {
  live : AreVariablesLive l.pool l.env;
  evidence : HaveEvidence (variables_seen l.pool l.env);
  grows : Grows l.fn.pool l.pool;
  steps : l.steps ≤ step_limit;
  more : l.fn.steps ≤ l.steps;
  later : g.K.Sink.faults l.fn.sink ≤ g.K.Sink.faults l.sink;
  leads : Leads (Repeats l.line (Condition (expression l.test)) (Run (statements l.body))) (Repeats l.line (Condition (expression l.test)) (Run (statements l.body)))
      (variables_seen l.fn.pool l.fn.env) l.fn.steps (variables_seen l.pool l.env) l.steps (g.K.Sink.written l.fn.sink) (g.K.Sink.written l.sink);
}

abbrev pub decreases-repeat-turns : goal.decreases-repeat-turns
decreases-repeat-turns g l = step_limit - l.steps
