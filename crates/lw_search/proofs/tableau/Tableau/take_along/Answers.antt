use Rattle.std.proofs.Common.{◌&&◌, ◌||◌, ap, eqb, refl, sym, ◌∙◌}
use Rattle.lw_search.specs.Step.{keeps_inside, keeps_nu}
use Rattle.lw_search.specs.Private.StepUse.{kept_of}
use Rattle.lw_search.proofs.KeptItems.{kept_none, kept_nu}
use Rattle.lw_search.proofs.LabelsByItem.{added_both}
use Rattle.lw_search.proofs.tableau.Tableau.take_along.Goals as goal

pub returns-in-Nu : goal.returns-in-Nu
returns-in-Nu g c =
    let is = rw c.self.view_is at c.self.invariant in
    let L = is.logic in
    let keeps = kept_nu c.args.self.now is.uncut c.args.item c.requires.item c.in-Nu.inner (rw c.self.view_is at c.in-Nu.ensures)
    ∙ (λ m j. ((ap keeps_nu L ∙ sym c.keeps_nu.ensures) m && eqb c.args.item j) || ((ap keeps_inside L ∙ sym c.keeps_inside.ensures) m && eqb c.in-Nu.inner j)) in
    added_both c.args.board.now c.add_if.new.board c.add_if-in-Nu.new.board (kept_of c.args.self.now c.args.item) c.args.item c.in-Nu.inner c.keeps_nu.result c.keeps_inside.result keeps c.add_if.ensures c.add_if-in-Nu.ensures

pub returns-in_default : goal.returns-in_default
returns-in_default g c =
    let is = rw c.self.view_is at c.self.invariant in
    rw (kept_none c.args.self.now is.uncut c.args.item c.requires.item c.parts.result (rw c.self.view_is at c.parts.ensures) c.in_default.not-Nu) (record { spot = refl; bits = refl })
