use Rattle.std.proofs.Common.{◌≡◌, ◌+◌, ◌-◌, ◌<◌, ℕ, length, subst, arith}
use Rattle.lw_fix.proofs.BareMarks.{AreBareMarksFrom, bare_marks_step, bare_marks_done}
use Rattle.lw_fix.proofs.outermost.bare_marks.Goals as goal

pub loop-at-preserved : goal.loop-at-preserved
loop-at-preserved c =
    let next : c.loop-at.at ≡ (c.loop-at.at - 1) + 1 = omega arith in
    let here : c.loop-at.at - 1 < length c.loop-at.marks.items = omega (arith, c.loop-at.invariant.long, c.loop-at.auto.at, c.len-at.ensures, c.in_ok-push.ensures.len, c.in_ok-marks.ensures.len) in
    bare_marks_step c.args.pool.now c.args.id (record { 0 = c.loop-at.at - 1 }) c.node.result.now c.loop-at.marks.items c.hand_down.new.marks.items
    c.count.ensures.ids c.requires c.node.ensures.tree c.node.ensures.below here
    (subst (λ (k : ℕ). AreBareMarksFrom k c.args.pool.now c.args.id c.loop-at.marks.items) next c.loop-at.invariant)
    c.hand_down.ensures

pub returns : goal.returns
returns c =
    let all : c.loop-at.at ≡ 0 = omega arith in
    bare_marks_done c.args.pool.now c.args.id c.loop-at.marks.items c.count.ensures.operands c.requires
    (subst (λ (k : ℕ). AreBareMarksFrom k c.args.pool.now c.args.id c.loop-at.marks.items) all c.loop-at.invariant)
