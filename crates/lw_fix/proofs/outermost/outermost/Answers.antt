use Rattle.std.proofs.Common.{◌≡◌, ◌+◌, ℕ, length, subst, sym, ◌∙◌, arith}
use Rattle.lw_fix.specs.Private.OutermostIds.{IsLetterTable, is_wanted}
use Rattle.lw_fix.proofs.OutermostFound.{AreFoundBelow, found_step, found_done}
use Rattle.lw_fix.proofs.outermost.outermost.Goals as goal

pub loop-at-preserved : goal.loop-at-preserved
loop-at-preserved c =
    subst (AreFoundBelow (c.loop-at.at + 1) c.args.pool.now c.in_ok-marks.marks.items c.in_ok-letters.letters.items) (sym c.in_ok-keep.ensures)
    (found_step c.args.pool.now c.in_ok-marks.marks.items c.in_ok-letters.letters.items c.loop-at.ids.items (record { 0 = c.loop-at.at }) c.is_wanted-wanted.result
    (c.is_wanted-wanted.ensures ∙ (λ i. is_wanted c.args.pool.now (c.deref.ensures.value i) (c.deref-in-loop-at.ensures.value i) (record { 0 = c.loop-at.at })))
    c.loop-at.invariant)

pub returns : goal.returns
returns c =
    let count : c.len.result ≡ length c.in_ok-marks.marks.items = omega (arith, c.len.ensures) in
    let all : c.loop-at.at ≡ length c.in_ok-marks.marks.items = omega (arith, c.len-at-end.ensures) in
    found_done c.args.pool.now c.args.name.now c.args.id c.in_ok-marks.marks.items c.in_ok-letters.letters.items c.loop-at.ids.items c.loop-at.at
    c.count.ensures.ids c.requires all c.in_ok-marks.ensures
    (subst (λ (k : ℕ). IsLetterTable c.args.pool.now c.args.name.now k c.in_ok-letters.letters.items) count c.in_ok-letters.ensures)
    c.loop-at.invariant
