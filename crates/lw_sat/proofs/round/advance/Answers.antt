use Rattle.std.proofs.Common.{sym, ap, subst, ◌∙◌, arith}
use Rattle.lw_sat.specs.Moves.{listed}
use Rattle.lw_sat.specs.SeedPath.{held_steps, most_steps}
use Rattle.lw_sat.specs.Saturated.{every, FoldsAll, IsAt}
use Rattle.lw_sat.specs.Sets.{top}
use Rattle.lw_sat.proofs.PathEnds.{most_steps-on}
use Rattle.lw_sat.proofs.OneRound.{at_items, branched, branched_room, grown, grown_room, leaf_closing}
use Rattle.lw_sat.proofs.round.advance.Goals as goal

pub find-requires-clause-wide : goal.find-requires-clause-wide
find-requires-clause-wide c = c.requires.1.wide

pub find-requires-clause-items : goal.find-requires-clause-items
find-requires-clause-items c = at_items c.args.closure.now c.requires.0 every c.args.frames.now.items c.args.board.now c.requires.1

pub unwind-requires : goal.unwind-requires
unwind-requires c = (
  c.requires.0,
  leaf_closing c.args.closure.now c.requires.0 every c.args.frames.now.items c.args.board.now c.requires.1 c.in-Leaf.rule c.in-Leaf.item c.in-Leaf.used c.close-proof.new.board c.close-proof.result c.in-Leaf.ensures.work c.close-proof.ensures.proof c.close-proof.ensures.uses,
)

pub returns-in-Some-clause-fits : goal.returns-in-Some-clause-fits
returns-in-Some-clause-fits c X test s h =
    subst (λ f. FoldsAll c.args.closure.now X test c.unwind.new.frames.items c.unwind.new.board f) c.in-Some.is
    (c.in_ok-whole-in-Leaf.ensures.folded X test
    (leaf_closing c.args.closure.now X test c.args.frames.now.items c.args.board.now h c.in-Leaf.rule c.in-Leaf.item c.in-Leaf.used c.close-proof.new.board c.close-proof.result c.in-Leaf.ensures.work c.close-proof.ensures.proof c.close-proof.ensures.uses))

pub returns-in-None-clause-fits : goal.returns-in-None-clause-fits
returns-in-None-clause-fits c X test s h =
    subst (λ f. FoldsAll c.args.closure.now X test c.unwind.new.frames.items c.unwind.new.board f) c.in-None.is
    (c.in_ok-whole-in-Leaf.ensures.folded X test
    (leaf_closing c.args.closure.now X test c.args.frames.now.items c.args.board.now h c.in-Leaf.rule c.in-Leaf.item c.in-Leaf.used c.close-proof.new.board c.close-proof.result c.in-Leaf.ensures.work c.close-proof.ensures.proof c.close-proof.ensures.uses))

pub returns-in_ok-push-in-Only-clause-fits : goal.returns-in_ok-push-in-Only-clause-fits
returns-in_ok-push-in-Only-clause-fits c X test s h =
    let t = c.args.closure.now in
    let w = c.in-Only.ensures.work in
    subst (λ fs. IsAt t X test fs c.grow-frame.new.board) (sym c.in_ok-push-in-Only.ensures.items)
    (grown t X test c.args.frames.now.items c.args.board.now h c.in-Only.rule c.in-Only.item c.in-Only.side c.grow-frame.result c.grow-frame.new.board w.0
    (s (top c.args.board.now.labels) c.in-Only.item (listed c.in-Only.side) w.0.below w.1 w.2 w.0.gains.0 h.passes) c.grow-frame.ensures.frame c.grow-frame.ensures.grown)

pub returns-in_ok-push-in-Only-clause-falls : goal.returns-in_ok-push-in-Only-clause-falls
returns-in_ok-push-in-Only-clause-falls c =
    grown_room c.args.closure.now c.requires.0 every c.args.frames.now.items c.args.board.now c.requires.1 c.in-Only.rule c.in-Only.item c.in-Only.side c.grow-frame.new.board c.in-Only.ensures.work.0 c.grow-frame.ensures.grown

pub returns-in_ok-push-in-Only-clause-steps : goal.returns-in_ok-push-in-Only-clause-steps
returns-in_ok-push-in-Only-clause-steps c =
    let all = ap most_steps c.in_ok-push-in-Only.ensures.items ∙ most_steps-on c.args.frames.now.items c.grow-frame.result in
    let held = ap held_steps c.grow-frame.ensures.frame in
    omega (arith, all, held)

pub returns-in_ok-push-in-Both-clause-fits : goal.returns-in_ok-push-in-Both-clause-fits
returns-in_ok-push-in-Both-clause-fits c X test s h =
    let t = c.args.closure.now in
    let w = c.in-Both.ensures.work in
    let label = top c.args.board.now.labels in
    subst (λ fs. IsAt t X test fs c.branch-board.new.board) (sym c.in_ok-push-in-Both.ensures.items)
    (branched t X test c.args.frames.now.items c.args.board.now h _ c.in-Both.item c.in-Both.first c.in-Both.second c.in_ok-frame-in-Both.frame c.branch-board.new.board w.0
    (s label c.in-Both.item (listed c.in-Both.first) w.0.below w.1 w.2 w.0.gains.0 h.passes) (s label c.in-Both.item (listed c.in-Both.second) w.0.below w.1 w.3 w.0.gains.1.0 h.passes)
    c.in_ok-frame-in-Both.ensures.frame c.in_ok-frame-in-Both.ensures.grown)

pub returns-in_ok-push-in-Both-clause-falls : goal.returns-in_ok-push-in-Both-clause-falls
returns-in_ok-push-in-Both-clause-falls c =
    branched_room c.args.closure.now c.requires.0 every c.args.frames.now.items c.args.board.now c.requires.1 _ c.in-Both.item c.in-Both.first c.in-Both.second c.branch-board.new.board c.in-Both.ensures.work.0 c.in_ok-frame-in-Both.ensures.grown

pub returns-in_ok-push-in-Both-clause-steps : goal.returns-in_ok-push-in-Both-clause-steps
returns-in_ok-push-in-Both-clause-steps c =
    let all = ap most_steps c.in_ok-push-in-Both.ensures.items ∙ most_steps-on c.args.frames.now.items c.in_ok-frame-in-Both.frame in
    let held = ap held_steps c.in_ok-frame-in-Both.ensures.frame in
    omega (arith, all, held)
