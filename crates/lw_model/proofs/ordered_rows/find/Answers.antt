use Rattle.std.proofs.Common.{◌≡◌, ◌∙◌, [], length, get_or, add-one, ap, sym}
use Rattle.std.proofs.lemmas.List.{get_or_default}
use Rattle.lw_model.proofs.RowsEndToEnd.{place-here, left-later, left-all, left-none}
use Rattle.lw_model.proofs.ordered_rows.find.Goals as goal

pub loop-at-init : goal.loop-at-init
loop-at-init g c = left-all c.args.rows.now c.args.i c.requires

pub loop-at-preserved : goal.loop-at-preserved
loop-at-preserved g c =
    let rows = c.args.rows.now in
    let at = c.loop-at.at in
    let count : c.len-count.result ≡ length (get_or rows at []) = c.len-count.ensures ∙ ap length (c.index-rows-at.is ∙ sym (get_or_default rows at [] c.index-rows-at.result c.loop-at-test.true)) in
    rw (count, add-one) (left-later rows c.args.i at c.loop-at.place c.loop-at.invariant c.loop-at-test.true (rw count at c.if-place-count.false))

pub returns-then-place-count : goal.returns-then-place-count
returns-then-place-count g c =
    let rows = c.args.rows.now in
    let at = c.loop-at.at in
    let count : c.len-count.result ≡ length (get_or rows at []) = c.len-count.ensures ∙ ap length (c.index-rows-at.is ∙ sym (get_or_default rows at [] c.index-rows-at.result c.loop-at-test.true)) in
    place-here rows c.args.i at c.loop-at.place c.loop-at.invariant c.loop-at-test.true (rw count at c.if-place-count.true)

pub unreachable-requires : goal.unreachable-requires
unreachable-requires g c = left-none c.args.rows.now c.args.i c.loop-at.at c.loop-at.place c.loop-at.invariant c.loop-at-test.false
