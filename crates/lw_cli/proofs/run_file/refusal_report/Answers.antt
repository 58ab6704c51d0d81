use Rattle.std.proofs.Common.{sym, subst}
use Rattle.lw_ast.specs.ScriptFaults.{IsScriptFaultOf}
use Rattle.lw_cli.specs.RunOutcomes.{RunOutcome, refused}
use Rattle.lw_cli.proofs.run_file.refusal_report.Goals as goal

pub returns-in_ok-syntax_line-in-Syntax-clause-report : goal.returns-in_ok-syntax_line-in-Syntax-clause-report
returns-in_ok-syntax_line-in-Syntax-clause-report c =
    subst (λ out. RunOutcome c.args.bytes.now out 1) (sym c.in_ok-syntax_line-in-Syntax.ensures)
    (refused c.in-Syntax.line c.in-Syntax.column c.in-Syntax.why c.requires.short (subst (IsScriptFaultOf c.args.bytes.now) c.in-Syntax.is c.requires.fault))
