use Rattle.std.proofs.Common.{◌<◌, refl, ◌∙◌, arith}
use Rattle.lw_closure.specs.Table.{item_count}
use Rattle.lw_search.proofs.tableau.Tableau.serve.Goals as goal

pub serve_item-requires-clause-serving : goal.serve_item-requires-clause-serving
serve_item-requires-clause-serving g c = (c.requires.0, (c.loop-search.invariant c.requires.0 c.requires.1).0)

pub returns-in-ByStep : goal.returns-in-ByStep
returns-in-ByStep g c aim h =
    let so_far = c.loop-search.invariant aim h in
    let fits = rw c.in-ByStep.is at (c.in_ok-serve_item.ensures aim so_far.0) in
    (fits.0, omega (arith, fits.1, so_far.1))

pub loop-search-smaller : goal.loop-search-smaller
loop-search-smaller g c =
    let (aim, h) = c.requires in
    let fits = rw c.in-Done.is at (c.in_ok-serve_item.ensures aim (c.loop-search.invariant aim h).0) in
    let below : c.loop-search.search.level.item < item_count c.args.self.now = omega arith in
    omega (arith, fits.1)

pub loop-search-preserved : goal.loop-search-preserved
loop-search-preserved g c aim h =
    let so_far = c.loop-search.invariant aim h in
    let fits = rw c.in-Done.is at (c.in_ok-serve_item.ensures aim so_far.0) in
    (fits.0, omega (arith, fits.2, so_far.1), fits.3 ∙ so_far.2)

pub returns : goal.returns
returns g c aim h =
    let so_far = c.loop-search.invariant aim h in
    let inside = so_far.0.serves.inside in
    (so_far.0, omega arith, so_far.1, so_far.2)

pub loop-search-init : goal.loop-search-init
loop-search-init g c aim h = (h, omega arith, refl)
