-- Labels that hold items of a closure go on to do so when a world is added.
use Rattle.std.specs.Prelude.{ℕ, ◌<◌, List, Option, All}
use Rattle.lw_closure.specs.Table.{Table, item_count}
use Rattle.lw_counter.specs.Fragment.{Fragment, HasItemsOf, with_world}
use Rattle.lw_counter.proofs.WellFormedFragments as forms

pub items_more : (t : Table) (f : Fragment) (parent : Option ℕ) (label : List ℕ) → HasItemsOf t f → All (λ i. i < item_count t) label → HasItemsOf t (with_world f parent label)
items_more = forms.items_more
