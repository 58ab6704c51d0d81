use Rattle.std.proofs.Common.{◌≡◌, ◌+◌, ◌-◌, ◌<◌, ℕ, length, subst, arith}
use Rattle.lw_pool.proofs.SubformulaMarks.{AreMarksFrom, marks_step, marks_done}
use Rattle.lw_pool.proofs.pool.Pool.subformula_table.Goals as goal

pub loop-at-preserved : goal.loop-at-preserved
loop-at-preserved c =
    let next : c.loop-at.at ≡ (c.loop-at.at - 1) + 1 = omega arith in
    let here : c.loop-at.at - 1 < length c.loop-at.marks.items = omega (arith, c.loop-at.invariant.long, c.loop-at.auto.at, c.len-at.ensures, c.in_ok-push.ensures.len, c.in_ok-marks.ensures.len) in
    marks_step c.args.self.now c.args.id (record { 0 = c.loop-at.at - 1 }) c.node.result.now c.loop-at.marks.items c.hand_down.new.marks.items
    c.allocator.ensures.ids c.requires c.node.ensures.tree c.node.ensures.below here
    (subst (λ (k : ℕ). AreMarksFrom k c.args.self.now c.args.id c.loop-at.marks.items) next c.loop-at.invariant)
    c.hand_down.ensures

pub returns : goal.returns
returns c =
    let all : c.loop-at.at ≡ 0 = omega arith in
    marks_done c.args.self.now c.args.id c.loop-at.marks.items c.allocator.ensures.ids c.allocator.ensures.operands c.requires
    (subst (λ (k : ℕ). AreMarksFrom k c.args.self.now c.args.id c.loop-at.marks.items) all c.loop-at.invariant)
