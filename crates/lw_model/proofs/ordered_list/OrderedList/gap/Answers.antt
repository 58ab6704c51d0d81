use Rattle.std.proofs.Common.{◌≡◌, ◌∙◌, subst}
use Rattle.std.specs.List.Sorted.{IsStrictlySortedBy}
use Rattle.lw_model.proofs.ListGaps.{absent}
use Rattle.lw_model.proofs.ordered_list.OrderedList.gap.Goals as goal

pub returns-clause-gap : goal.returns-clause-gap
returns-clause-gap g c =
    let items : c.as_slice.result.now ≡ c.args.self.now = c.as_slice.ensures.value ∙ c.self.view_is in
    let sorted = subst (IsStrictlySortedBy g.T.Ord.cmp) c.self.view_is c.self.invariant.0 in
    rw c.err.ensures.value
    (absent g.met.T.Ord.total c.args.self.now c.args.item.now c.binary_search.result sorted (rw items at c.binary_search.ensures.bound) (rw items at c.binary_search.ensures.position))
