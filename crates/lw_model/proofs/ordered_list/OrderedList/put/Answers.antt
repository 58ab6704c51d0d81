use Rattle.lw_model.proofs.ListGaps.{sorted-insert, All-insert}
use Rattle.lw_model.proofs.ordered_list.OrderedList.put.Goals as goal

pub invariant_of-self-2 : goal.invariant_of-self-2
invariant_of-self-2 g c =
    let gap = rw (← c.self.view_is) at c.requires.gap in
    rw c.in_ok-insert.ensures.items (
      sorted-insert g.met.T.Ord.total c.self.inside.items.items c.args.place c.args.item c.self.invariant.0 gap,
      All-insert g.T.Item.is_valid c.self.inside.items.items c.args.place c.args.item c.self.invariant.1 c.requires.valid,
    )
