use Rattle.std.proofs.Common.{◌++◌, [], ap, ◌∙◌}
use Rattle.std.proofs.lemmas.List.{get_or_default, take_all}
use Rattle.lw_cert.specs.Lines.{words}
use Rattle.lw_cert.proofs.LineBytes.{words-more}
use Rattle.lw_cert.proofs.model_writer.write_names.Goals as goal

pub loop-name-preserved : goal.loop-name-preserved
loop-name-preserved c =
    words-more c.args.names.now c.loop-name.name-index c.as_bytes.result.now c.args.out.now.items c.loop-name.out.items c.push.new.self.items c.extend_from_slice.new.self.items c.loop-name-test.true
    (c.as_bytes.ensures.value ∙ c.name-item.is ∙ get_or_default c.args.names.now c.loop-name.name-index c.name-item.result [] c.loop-name-test.true) c.loop-name.invariant c.in_ok-push.ensures.items c.in_ok-extend_from_slice.ensures.items

pub returns : goal.returns
returns c = c.loop-name.invariant ∙ ap (λ ps. c.args.out.now.items ++ words ps) (take_all c.loop-name.name-index c.args.names.now c.loop-name-test.false)
