use Rattle.std.proofs.Common.{sym, ap, subst, ◌∙◌}
use Rattle.lw_ast.specs.ScriptViews.{expression}
use Rattle.lw_value.specs.Assignments.{variables_seen, AreVariablesLive}
use Rattle.lw_value.specs.Views.{value_of}
use Rattle.lw_value.proofs.VariablesSeen.{put_seen, put_live}
use Rattle.lw_eval.specs.Expressions.{Eval}
use Rattle.lw_eval.specs.Runs.{With, Assigns}
use Rattle.lw_eval.specs.Private.Given.{shown_in}
use Rattle.lw_eval.specs.Private.Carried.{OrCut}
use Rattle.lw_eval.proofs.RunsCarried.{carries_does, carries_value, carries_assigned, carries_memory, carries_fault}
use Rattle.lw_eval.proofs.step.assign.Goals as goal

pub returns-in-Ok-set-clause-run : goal.returns-in-Ok-set-clause-run
returns-in-Ok-set-clause-run c = λ k w. carries_does _ _ _ k k w w _
    (carries_value c.args.line (λ env. Eval env (expression c.args.expr.now)) (Assigns c.args.name.now) (shown_in c.value_at.new.pool c.in-Ok.value) _ _ _ k k w w _ c.in-Ok.ensures.value c.in-Ok.ensures.same
    (carries_assigned c.args.name.now (shown_in c.value_at.new.pool c.in-Ok.value) _ _ k w
    (ap (variables_seen c.value_at.new.pool) c.in-Ok-set.ensures.set ∙ put_seen c.value_at.new.pool c.args.env.now c.args.name.now (value_of c.in-Ok.value))))

pub returns-in-Ok-set-clause-live : goal.returns-in-Ok-set-clause-live
returns-in-Ok-set-clause-live c = subst (AreVariablesLive c.value_at.new.pool) (sym c.in-Ok-set.ensures.set)
    (put_live c.value_at.new.pool c.args.env.now c.args.name.now (value_of c.in-Ok.value) c.in-Ok.ensures.kept c.in-Ok.ensures.live)

pub returns-in-Err-set-clause-run : goal.returns-in-Err-set-clause-run
returns-in-Err-set-clause-run c = λ k w. carries_memory _ _ _ k k w OrCut.cut_first (ap (variables_seen c.value_at.new.pool) c.in-Err-set.ensures.failed ∙ c.in-Ok.ensures.same)

pub returns-in-Err-clause-run : goal.returns-in-Err-clause-run
returns-in-Err-clause-run c = λ k w. carries_fault _ _ _ k k c.args.line (Eval (variables_seen c.args.pool.now c.args.env.now) (expression c.args.expr.now)) c.in-Err.fault w
    OrCut.cut_first (λ t gives. OrCut.does (With.trouble gives)) c.in-Err.ensures.same c.in-Err.ensures.value
