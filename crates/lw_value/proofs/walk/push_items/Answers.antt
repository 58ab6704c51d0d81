use Rattle.std.proofs.Common.{ap, ◌≡◌, ◌∙◌, ◌++◌, map, take}
use Rattle.std.proofs.lemmas.List.{take_all}
use Rattle.lw_value.specs.Views.{value_of}
use Rattle.lw_value.specs.Private.LengthsLeft.{values_under}
use Rattle.lw_value.proofs.ValuesWaiting.{put-items}
use Rattle.lw_value.proofs.walk.push_items.Goals as goal

pub returns-after-loop-item : goal.returns-after-loop-item
returns-after-loop-item c =
    let whole : take c.loop-item.item-index c.as_slice-item-items.result.now ≡ c.as_slice-item-items.result.now = take_all c.loop-item.item-index c.as_slice-item-items.result.now c.loop-item-test.false in
    put-items (value_of c.args.value.now) c.in-Items.items (values_under c.loop-item.left.items) (values_under c.args.left.now.items) (ap value_of c.in-Items.is)
    (c.loop-item.invariant ∙ ap (λ vs. values_under c.args.left.now.items ++ map value_of vs) whole ∙ ap (λ vs. values_under c.args.left.now.items ++ vs) c.as_slice-item-items.ensures)
