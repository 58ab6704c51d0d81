use Rattle.std.proofs.Common.{inl}
use Rattle.lw_cli.specs.Commands.{Outcome}
use Rattle.lw_cli.proofs.WritingEnded.{wrote_part}
use Rattle.lw_cli.proofs.carry_out.answer.Goals as goal

pub returns-clause-failed : goal.returns-clause-failed
returns-clause-failed g c = λ is. inl (wrote_part (Outcome c.args.command.now c.args.bytes.now) _ _ _ c.in-Ok.report c.in-Ok.ensures.report c.in-Err-say.ensures.part)
