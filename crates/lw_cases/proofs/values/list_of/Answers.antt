use Rattle.lw_value.specs.Views.{value_of}
use Rattle.lw_cases.proofs.WrittenValues.{copy_written, written_at}
use Rattle.lw_cases.proofs.values.list_of.Goals as goal

pub values-preserved : goal.values-preserved
values-preserved c ts can =
    copy_written ts c.values.items c.push.new.self (value_of c.value-item.result) (value_of c.in_ok-try_clone.field-0) c.in_ok-push.ensures.pushed c.in_ok-try_clone.ensures (c.values.invariant ts can)
    (written_at ts c.args.values.now c.values.value-index c.value-item.result c.values-test.true c.value-item.is can)
