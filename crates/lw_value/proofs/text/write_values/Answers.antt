use Rattle.std.proofs.Common.{subst}
use Rattle.lw_value.specs.Views.{values_of}
use Rattle.lw_value.specs.Private.TextsLeft.{IsPrintable, CanPrintAll}
use Rattle.lw_value.proofs.ValuesTaken.{live-next, each-next}
use Rattle.lw_value.proofs.JoinedTexts.{one-behind, all-joined}
use Rattle.lw_value.proofs.text.write_values.Goals as goal

pub write_value-requires-in-loop-value : goal.write_value-requires-in-loop-value
write_value-requires-in-loop-value c =
    let can = subst (λ xs. CanPrintAll c.args.pool.now (values_of xs)) c.in-Some.ensures.cases.0 c.requires in (
      live-next c.args.pool.now c.in-Some.others.now c.loop-value.value-index c.value-item.result c.loop-value-test.true c.value-item.is can.0.1,
      each-next (IsPrintable c.args.pool.now) c.in-Some.others.now c.loop-value.value-index c.value-item.result c.loop-value-test.true c.value-item.is can.1.1,
    )

pub loop-value-preserved : goal.loop-value-preserved
loop-value-preserved c =
    one-behind c.args.pool.now c.in-Some.first.now c.in-Some.others.now c.loop-value.value-index c.value-item.result
    c.write_value.new.out.items c.loop-value.out.items c.push.new.self.items c.write_value-in-loop-value.new.out.items
    c.loop-value-test.true c.value-item.is c.loop-value.invariant c.in_ok-push.ensures.items c.in_ok-write_value-2.ensures

pub returns : goal.returns
returns c =
    all-joined c.args.pool.now c.in-Some.first.now c.in-Some.others.now c.loop-value.value-index c.args.values.now
    c.args.out.now.items c.write_value.new.out.items c.loop-value.out.items c.in-Some.ensures.cases.0 c.loop-value-test.false c.in_ok-write_value.ensures c.loop-value.invariant
