use Rattle.std.proofs.Common.{◌≤◌, length, inr, arith}
use Rattle.lw_ast.specs.ScriptViews.{statements}
use Rattle.lw_cli.specs.FileLimit.{file_limit}
use Rattle.lw_cli.specs.declared.report.ReportFault.TheVariants.{SinkFailed, Memory}
use Rattle.lw_cli.proofs.WritingEnded.{reports_limit, reports_of_script, short_of_fault}
use Rattle.lw_cli.proofs.run_file.run_report.Goals as goal

pub returns-then-bytes-gt-FILE_LIMIT-clause-report : goal.returns-then-bytes-gt-FILE_LIMIT-clause-report
returns-then-bytes-gt-FILE_LIMIT-clause-report g c = reports_limit c.args.bytes.now _ c.in_ok-limit_report.field-0 (omega arith) c.in_ok-limit_report.ensures

pub returns-in-Ok-clause-report : goal.returns-in-Ok-clause-report
returns-in-Ok-clause-report g c =
    let short : length c.args.bytes.now ≤ file_limit = omega arith in
    reports_of_script c.args.bytes.now (statements c.in-Ok.script.body) _ _ c.script_report.result short c.in-Ok.ensures.script c.script_report.ensures.report

pub returns-in-Ok-clause-failed : goal.returns-in-Ok-clause-failed
returns-in-Ok-clause-failed g c =
    let short : length c.args.bytes.now ≤ file_limit = omega arith in
    short_of_fault c.args.bytes.now (statements c.in-Ok.script.body) _ _ c.script_report.result SinkFailed short c.in-Ok.ensures.script c.script_report.ensures.short

pub returns-in-Ok-clause-memory : goal.returns-in-Ok-clause-memory
returns-in-Ok-clause-memory g c =
    let short : length c.args.bytes.now ≤ file_limit = omega arith in
    λ is. inr (short_of_fault c.args.bytes.now (statements c.in-Ok.script.body) _ _ c.script_report.result Memory short c.in-Ok.ensures.script c.script_report.ensures.short is)
