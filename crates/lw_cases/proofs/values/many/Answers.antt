use Rattle.lw_value.specs.Views.{value_of}
use Rattle.lw_cases.proofs.WrittenValues.{copy_written}
use Rattle.lw_cases.proofs.values.many.Goals as goal

pub copies-preserved : goal.copies-preserved
copies-preserved c ts can =
    copy_written ts c.copies.items c.push.new.self (value_of c.args.value.now) (value_of c.in_ok-try_clone.field-0) c.in_ok-push.ensures.pushed c.in_ok-try_clone.ensures (c.copies.invariant ts can) can
