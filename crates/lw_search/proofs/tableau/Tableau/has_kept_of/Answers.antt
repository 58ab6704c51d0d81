use Rattle.std.proofs.Common.{refl, rules}
use Rattle.lw_sat.specs.Sets.{among}
use Rattle.lw_search.proofs.KeptItems.{within_none, within_nu}
use Rattle.lw_search.proofs.tableau.Tableau.has_kept_of.Goals as goal

pub returns-then-has_if : goal.returns-then-has_if
returns-then-has_if g c =
    let is = rw c.self.view_is at c.self.invariant in
    within_nu c.args.self.now is.uncut c.args.item c.requires c.in-Nu.inner (rw c.self.view_is at c.in-Nu.ensures) (among c.args.items.now) c.has_if-then-has_if.result (search rules)

pub returns-in_default : goal.returns-in_default
returns-in_default g c =
    let is = rw c.self.view_is at c.self.invariant in
    (λ e. within_none c.args.self.now is.uncut _ c.requires _ (rw c.self.view_is at c.parts.ensures) c.in_default.not-Nu (among c.args.items.now), λ h. refl)
