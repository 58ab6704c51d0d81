use Rattle.std.proofs.lemmas.List.Elements.{All-nil}
use Rattle.lw_model.proofs.ListGaps.{sorted-nil}
use Rattle.lw_model.proofs.ordered_list.OrderedList.new.Goals as goal

pub invariant_of-result : goal.invariant_of-result
invariant_of-result g c = rw c.new.ensures.items (sorted-nil g.T.Ord.cmp, All-nil g.T.Item.is_valid)
