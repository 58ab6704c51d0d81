use Rattle.std.proofs.Common.{◌≡◌, ◌+◌, sym, ap, subst, refl, ◌∙◌}
use Rattle.lw_search.specs.declared.level.Search.{Search}
use Rattle.lw_search.specs.declared.level.Served.TheVariants.{Done}
use Rattle.lw_search.specs.Private.SearchTurns.{StepFits}
use Rattle.lw_search.specs.Ranked.{StepsTo}
use Rattle.lw_search.proofs.NextStates.{item_done, itself_served, label_items, witness_serves}
use Rattle.lw_search.proofs.tableau.Tableau.serve_item.Goals as goal
use Rattle.lw_search.proofs.tableau.Tableau.serve_item.Goals.{in-Some+in_ok-link+else-not-branch, in_default}

pub descend-requires-clause-serving : goal.descend-requires-clause-serving
descend-requires-clause-serving g c =
    let (aim, h) = c.requires.serving in
    let fits = rw c.if-not-branch.true at (c.in_ok-link.ensures aim h) in
    (aim, rw fits.0 h)

pub descend-requires-clause-asked : goal.descend-requires-clause-asked
descend-requires-clause-asked g c =
    let fits = rw c.if-not-branch.true at (c.in_ok-link.ensures c.requires.serving.0 c.requires.serving.1) in
    rw fits.0 c.in-Some.ensures

pub descend-requires-clause-far : goal.descend-requires-clause-far
descend-requires-clause-far g c =
    let fits = rw c.if-not-branch.true at (c.in_ok-link.ensures c.requires.serving.0 c.requires.serving.1) in
    rw fits.0 fits.1

pub asked-requires-clause-items : goal.asked-requires-clause-items
asked-requires-clause-items g c = label_items _ _ _ c.args.search.now.level c.requires.serving.1.serves.at

pub returns-then-not-branch : goal.returns-then-not-branch
returns-then-not-branch g c aim h =
    let fits = rw c.if-not-branch.true at (c.in_ok-link.ensures aim h) in
    rw fits.0 at (c.in_ok-descend.ensures aim (rw fits.0 h))

pub returns : goal.returns
returns g c aim h =
    let t = c.args.self.now in
    let s = c.args.search.now in
    let done = λ (n : Search). StepFits t aim s (record n { level = record n.level { item = s.level.item + 1 } }) Done in
    elim c.match-asked.branch [
      | in-Some+in_ok-link+else-not-branch w ↦ (
          let fits = rw w.if-not-branch.false at (w.in_ok-link.ensures aim h) in
          let item = ap (λ l. l.item) fits.2 in
          subst done (sym w.search-is) (item_done t aim s w.link.new.search fits.0 fits.2 fits.3 c.requires.item
          (witness_serves t w.link.new.search w.in-Some.inner (subst (λ i. StepsTo t i w.in-Some.inner) (sym item) w.in-Some.ensures.steps) fits.1))
          )
      | in_default w ↦ subst done (sym w.search-is) (item_done t aim s s h refl refl c.requires.item (itself_served t aim s h c.requires.item w.in_default.ensures))
    ]
