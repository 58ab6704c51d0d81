use Rattle.lw_value.specs.Views.{value_of}
use Rattle.lw_eval.proofs.CallsAnswered.{appended}
use Rattle.lw_eval.proofs.listing.append.Goals as goal

pub returns-clause-value : goal.returns-clause-value
returns-clause-value c = appended c.args.pool.now c.args.list.now c.args.last.now c.in-Items.items c.in_ok-longer.longer c.push.new.self (value_of c.in_ok-try_clone.field-0) _
    c.in-Items.is c.in_ok-longer.ensures c.in_ok-try_clone.ensures c.in_ok-push.ensures.pushed (c.list_of.ensures.value c.args.pool.now)
