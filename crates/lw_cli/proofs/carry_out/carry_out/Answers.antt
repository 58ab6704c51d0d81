use Rattle.std.proofs.Common.{◌+◌, Err, ap, subst, sym}
use Rattle.lw_cli.specs.FileLimit.{file_limit}
use Rattle.lw_cli.specs.Private.AskedWords.{IsReadPart}
use Rattle.lw_cli.proofs.FetchedBytes.{answers_whole, short_whole, nothing_or_short}
use Rattle.lw_cli.proofs.carry_out.carry_out.Goals as goal

pub returns-in-Ok-answer-clause-carried_out : goal.returns-in-Ok-answer-clause-carried_out
returns-in-Ok-answer-clause-carried_out g c =
    let held : IsReadPart (g.S.Store.holds c.args.store.now) c.args.command.now (file_limit + 1) c.as_slice.result.now =
    subst (IsReadPart (g.S.Store.holds c.args.store.now) c.args.command.now (file_limit + 1)) (sym c.as_slice.ensures.value) c.in-Ok.ensures.part
    in λ is. answers_whole c.args.command.now _ c.as_slice.result.now _ _ c.in-Ok-answer.status held c.in-Ok-answer.ensures.whole

pub returns-in-Err-SinkFailed-clause-sink_part : goal.returns-in-Err-SinkFailed-clause-sink_part
returns-in-Err-SinkFailed-clause-sink_part g c =
    let held : IsReadPart (g.S.Store.holds c.args.store.now) c.args.command.now (file_limit + 1) c.as_slice.result.now =
    subst (IsReadPart (g.S.Store.holds c.args.store.now) c.args.command.now (file_limit + 1)) (sym c.as_slice.ensures.value) c.in-Ok.ensures.part
    in λ is. short_whole c.args.command.now _ c.as_slice.result.now _ _ held (c.in-Err-SinkFailed.ensures.failed (ap Err c.in-Err-SinkFailed.field-0-is))

pub returns-clause-no_memory : goal.returns-clause-no_memory
returns-clause-no_memory g c =
    let held : IsReadPart (g.S.Store.holds c.args.store.now) c.args.command.now (file_limit + 1) c.as_slice.result.now =
    subst (IsReadPart (g.S.Store.holds c.args.store.now) c.args.command.now (file_limit + 1)) (sym c.as_slice.ensures.value) c.in-Ok.ensures.part
    in λ is. nothing_or_short c.args.command.now _ c.as_slice.result.now _ _ held (c.in-Err-Memory-answer.ensures.memory (ap Err c.in-Err-Memory-answer.field-0-is))
