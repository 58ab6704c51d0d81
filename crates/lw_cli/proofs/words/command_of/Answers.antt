use Rattle.lw_cli.proofs.AskedCommands.{asked_run, asked_check}
use Rattle.lw_cli.proofs.words.command_of.Goals as goal

pub returns-in_err-from_text-in-run-clause-err : goal.returns-in_err-from_text-in-run-clause-err
returns-in_err-from_text-in-run-clause-err c = asked_run c.args.verb.now c.args.word.now c.from_residual.result c.in-run.is

pub returns-in_err-from_text-in-check-clause-err : goal.returns-in_err-from_text-in-check-clause-err
returns-in_err-from_text-in-check-clause-err c =
    asked_check c.args.verb.now c.args.word.now c.from_residual-in_err-from_text-in-check.result c.in-check.is
