use Rattle.lw_value.specs.Private.TextsLeft.{parts_of}
use Rattle.lw_value.proofs.PartsWritten.{opens, on-ok}
use Rattle.lw_value.proofs.text.open.Goals as goal

pub returns-in-Some : goal.returns-in-Some
returns-in-Some c =
    on-ok c.push_parts.result
    (λ put ts can. opens ts c.in-Some.first.now c.in-Some.others.now c.args.out.now.items c.push.new.self.items (parts_of c.args.left.now.items) (parts_of c.push_parts.new.left.items) put
    c.args.values.now c.in-Some.ensures.cases.0 c.in_ok-push.ensures.items can)
    c.push_parts.ensures
