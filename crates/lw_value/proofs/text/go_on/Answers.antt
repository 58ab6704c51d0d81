use Rattle.lw_value.specs.Private.TextsLeft.{parts_of}
use Rattle.lw_value.proofs.PartsWritten.{goes-on, on-ok}
use Rattle.lw_value.proofs.text.go_on.Goals as goal

pub returns-in_ok-extend_from_slice-in-Some : goal.returns-in_ok-extend_from_slice-in-Some
returns-in_ok-extend_from_slice-in-Some c =
    on-ok c.push_parts.result
    (λ put ts can. goes-on ts c.in-Some.first.now c.in-Some.others.now c.args.out.now.items c.extend_from_slice.new.self.items (parts_of c.args.left.now.items) (parts_of c.push_parts.new.left.items) put
    c.args.values.now c.in-Some.ensures.cases.0 c.in_ok-extend_from_slice-in-Some.ensures.items can)
    c.push_parts.ensures
