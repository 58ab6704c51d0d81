use Rattle.std.proofs.Common.{rules, sym}
use Rattle.lw_sat.specs.Sets.{top}
use Rattle.lw_search.proofs.KeptItems.{meets_none, meets_nu}
use Rattle.lw_search.proofs.tableau.Tableau.sends.Goals as goal

pub returns-then-has : goal.returns-then-has
returns-then-has g c =
    let is = rw c.self.view_is at c.self.invariant in
    rw (meets_nu c.args.self.now is.uncut c.args.item c.requires c.in-Nu.inner (rw c.self.view_is at c.in-Nu.ensures) is.table (top c.args.above.now.labels)) (search rules)

pub returns-then-keeps_inside : goal.returns-then-keeps_inside
returns-then-keeps_inside g c =
    let is = rw c.self.view_is at c.self.invariant in
    rw (meets_nu c.args.self.now is.uncut c.args.item c.requires c.in-Nu.inner (rw c.self.view_is at c.in-Nu.ensures) is.table (top c.args.above.now.labels)) (search rules)

pub returns-else-keeps_inside : goal.returns-else-keeps_inside
returns-else-keeps_inside g c =
    let is = rw c.self.view_is at c.self.invariant in
    rw (meets_nu c.args.self.now is.uncut c.args.item c.requires c.in-Nu.inner (rw c.self.view_is at c.in-Nu.ensures) is.table (top c.args.above.now.labels)) (search rules)

pub returns-in_default : goal.returns-in_default
returns-in_default g c =
    let is = rw c.self.view_is at c.self.invariant in
    sym (meets_none c.args.self.now is.uncut _ c.requires _ (rw c.self.view_is at c.parts.ensures) c.in_default.not-Nu (top c.args.above.now.labels))
