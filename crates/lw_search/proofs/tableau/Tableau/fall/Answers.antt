use Rattle.std.proofs.Common.{Some, None, refl, arith}
use Rattle.std.proofs.lemmas.List.{nil_from_length}
use Rattle.lw_search.proofs.ClosedSeeds.{all_fallen, goes_on, step_closed}
use Rattle.lw_search.proofs.tableau.Tableau.fall.Goals as goal

pub close_label-requires-clause-closes : goal.close_label-requires-clause-closes
close_label-requires-clause-closes g c =
    let (aim, h) = c.requires in
    let was = c.replace-above.ensures in
    let closes = step_closed _ aim c.args.search.now _ _ (c.loop-level.invariant aim h) _ _ c.in-Some.ensures.items in
    (aim, closes.0, closes.1, rw (was.after, was.value) closes.2)

pub close_label-requires-clause-wide : goal.close_label-requires-clause-wide
close_label-requires-clause-wide g c = rw c.replace-above.ensures.value (c.loop-level.invariant _ c.requires.1).0.wide

pub loop-level-preserved : goal.loop-level-preserved
loop-level-preserved g c aim h =
    let was = c.replace-above.ensures in
    goes_on _ aim c.args.search.now _ _ (c.loop-level.invariant aim h) _ _ c.in-Some.ensures.items (record { below = c.pop.new.self; level = c.close_label.new.level; fragment = c.cut.new.self }) refl (rw was.after at c.cut.ensures)
    (Some c.in-Some-2.whole) (rw (was.after, was.value, c.in-Some-2.is) at c.in_ok-close_label.ensures)

pub returns-in-None : goal.returns-in-None
returns-in-None g c aim h =
    let was = c.replace-above.ensures in
    goes_on _ aim c.args.search.now _ _ (c.loop-level.invariant aim h) _ _ c.in-Some.ensures.items (record { below = c.pop.new.self; level = c.close_label.new.level; fragment = c.cut.new.self }) refl (rw was.after at c.cut.ensures) None
    (rw (was.after, was.value, c.in-None.is) at c.in_ok-close_label.ensures)

pub returns : goal.returns
returns g c aim h = all_fallen _ aim _ _ (c.loop-level.invariant aim h).0 (nil_from_length _ (omega (arith, c.loop-level.search.below.ok.0, c.in_default.ensures.cases.0)))
