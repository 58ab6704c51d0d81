use Rattle.std.proofs.Common.{◌++◌, ap, ◌∙◌}
use Rattle.std.proofs.lemmas.List.{take_all}
use Rattle.lw_cert.specs.Lines.{numbers}
use Rattle.lw_cert.proofs.LineBytes.{numbers-more}
use Rattle.lw_cert.proofs.model_writer.write_numbers.Goals as goal

pub loop-number-preserved : goal.loop-number-preserved
loop-number-preserved c =
    numbers-more c.args.all.now c.loop-number.number-index c.args.out.now.items c.loop-number.out.items c.push.new.self.items c.write_number.new.out.items c.loop-number-test.true
    c.loop-number.invariant c.in_ok-push.ensures.items c.in_ok-write_number.ensures

pub returns : goal.returns
returns c = λ after. c.loop-number.invariant after ∙ ap (λ vs. c.args.out.now.items ++ numbers vs after) (take_all c.loop-number.number-index c.args.all.now c.loop-number-test.false)
