use Rattle.std.proofs.Common.{refl}
use Rattle.lw_ast.specs.ScriptViews.{statements}
use Rattle.lw_cli.proofs.WritingEnded.{ran_from_none, stopped_from_none, reports_carried, reports_trouble, short_of_trouble}
use Rattle.lw_cli.proofs.run_file.script_report.Goals as goal

pub returns-in-Ok-clause-report : goal.returns-in-Ok-clause-report
returns-in-Ok-clause-report g c =
    reports_carried (statements c.args.script.now.body) _ _ _ c.in-Ok.field-0 (record { line = c.new.result; status = 0 })
    (ran_from_none (statements c.args.script.now.body) c.new-pool.result c.new-env.result _ _ _ _ c.new-env.ensures c.in-Ok.ensures.run) c.new.ensures.items refl

pub returns-in-Err-Stopped-clause-report : goal.returns-in-Err-Stopped-clause-report
returns-in-Err-Stopped-clause-report g c =
    reports_trouble (statements c.args.script.now.body) _ _ _ c.in-Err-Stopped.line c.in-Err-Stopped.trouble c.in_ok-trouble_report-in-Err-Stopped.field-0
    (stopped_from_none (statements c.args.script.now.body) c.new-pool.result c.new-env.result _ _ _ _ c.in-Err-Stopped.line c.in-Err-Stopped.trouble c.new-env.ensures c.in-Err-Stopped.field-0-is c.in-Err-Stopped.ensures.run)
    c.in_ok-trouble_report-in-Err-Stopped.ensures

pub returns-in_err-trouble_report-in-Err-Stopped-clause-short : goal.returns-in_err-trouble_report-in-Err-Stopped-clause-short
returns-in_err-trouble_report-in-Err-Stopped-clause-short g c =
    short_of_trouble (statements c.args.script.now.body) _ _ _ c.in-Err-Stopped.line c.in-Err-Stopped.trouble c.from_residual.result
    (stopped_from_none (statements c.args.script.now.body) c.new-pool.result c.new-env.result _ _ _ _ c.in-Err-Stopped.line c.in-Err-Stopped.trouble c.new-env.ensures c.in-Err-Stopped.field-0-is c.in-Err-Stopped.ensures.run)
