use Rattle.std.proofs.Common.{refl}
use Rattle.lw_search.proofs.NextStates.{label_items, linked_serving, linked_witness}
use Rattle.lw_search.proofs.tableau.Tableau.link.Goals as goal

pub target-requires : goal.target-requires
target-requires g c = label_items _ _ _ c.args.search.now.level c.requires.1.serves.at

pub returns-in_ok-link-in-Some : goal.returns-in_ok-link-in-Some
returns-in_ok-link-in-Some g c aim h =
    let served = c.in-Some.ensures in
    rw c.in_ok-link-in-Some.ensures.added
    (linked_serving _ aim _ h c.in-Some.world c.args.inner served.0 served.1, linked_witness _ aim _ h c.in-Some.world c.args.inner served.0 served.1, refl, refl)
