use Rattle.std.proofs.Common.{◌≡◌, ◌+◌, length, ap, refl, ◌∙◌, arith}
use Rattle.std.proofs.lemmas.List.{length_push, nil_from_length}
use Rattle.lw_search.specs.declared.level.Search.{Search}
use Rattle.lw_search.proofs.NextStates.{explored, item_below, risen}
use Rattle.lw_search.proofs.tableau.Tableau.rise.Goals as goal

pub serve-requires : goal.serve-requires
serve-requires g c = (c.requires.0, (c.loop-search.invariant c.requires.0 c.requires.1).0)

pub returns-in-ByStep : goal.returns-in-ByStep
returns-in-ByStep g c aim h =
    let so_far = c.loop-search.invariant aim h in
    let fits = rw c.in-ByStep.is at (c.in_ok-serve.ensures aim so_far.0) in
    (fits.0, omega (arith, fits.1, so_far.1))

pub loop-search-preserved : goal.loop-search-preserved
loop-search-preserved g c aim h =
    let so_far = c.loop-search.invariant aim h in
    let fits = rw c.in-Done.is at (c.in_ok-serve.ensures aim so_far.0) in
    let l = c.in-Some.level in
    let n : Search = record { below = c.pop.new.self; level = record l { item = l.item + 1 }; fragment = c.serve.new.search.fragment } in
    let on = risen _ aim c.serve.new.search fits.0 fits.1 _ l c.in-Some.ensures.items n refl refl refl in
    (on.0, omega (arith, on.1, fits.2, so_far.1))

pub returns-in-None : goal.returns-in-None
returns-in-None g c aim h =
    let fits = rw c.in-Done.is at (c.in_ok-serve.ensures aim (c.loop-search.invariant aim h).0) in
    explored _ aim c.serve.new.search fits.0 fits.1 (nil_from_length _ (omega (arith, c.serve.new.search.below.ok.0, c.in-None.ensures.cases.0)))

pub loop-search-smaller : goal.loop-search-smaller
loop-search-smaller g c =
    let (aim, h) = c.requires in
    let fits = rw c.in-Done.is at (c.in_ok-serve.ensures aim (c.loop-search.invariant aim h).0) in
    let same = ap (λ v. length v.items) fits.3 in
    let long : length c.serve.new.search.below.items ≡ length c.pop.new.self.items + 1 = ap length c.in-Some.ensures.items ∙ length_push c.pop.new.self.items c.in-Some.level in
    omega (arith, same, long)

pub overflow_add-search : goal.overflow_add-search
overflow_add-search g c =
    let (aim, h) = c.requires in
    let fits = rw c.in-Done.is at (c.in_ok-serve.ensures aim (c.loop-search.invariant aim h).0) in
    let below = item_below _ aim c.serve.new.search fits.0 fits.1 _ c.in-Some.level c.in-Some.ensures.items in
    let few = fits.0.guides.table.few in
    omega arith
