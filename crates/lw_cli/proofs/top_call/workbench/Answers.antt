use Rattle.std.proofs.Common.{inr, subst, map, string_bytes, Global}
use Rattle.lw_cli.specs.Asked.{IsCommandOf}
use Rattle.lw_cli.proofs.SoundScripts.{sound_is_carried}
use Rattle.lw_cli.proofs.top_call.workbench.Goals as goal

pub returns-in-Ok-Some-clause-sound : goal.returns-in-Ok-Some-clause-sound
returns-in-Ok-Some-clause-sound g c = λ asks.
    sound_is_carried c.one_script.ensures c.one_script_answer.ensures (map (string_bytes {Z = Global}) c.args.words.now) (g.S.Store.holds c.args.store.now)
    (g.K.Sink.written c.args.sink.now) (g.K.Sink.written c.carry_out.new.sink) c.carry_out.result asks
    (λ one. (c.in-Ok-Some.command, subst (IsCommandOf (map (string_bytes {Z = Global}) c.args.words.now)) c.in-Ok-Some.field-0-is c.in-Ok-Some.ensures.ok, c.carry_out.ensures.carried_out (inr one)))
