use Rattle.std.proofs.Common.{sym, subst, arith}
use Rattle.lw_sat.specs.Saturated.{IsAt}
use Rattle.lw_sat.specs.Sets.{among}
use Rattle.lw_sat.proofs.SaturationCourse.{seed_added, seed_at}
use Rattle.lw_sat.proofs.saturation.Saturation.start.Goals as goal

pub loop-item-preserved : goal.loop-item-preserved
loop-item-preserved c =
    let h = c.loop-item.invariant in
    record {
      spot = seed_added c.args.seed.now c.loop-item.item-index c.loop-item.board c.add_side.new.self c.loop-item-test.true h.spot c.add_side.ensures;
      wide = (let bits = c.add_side.ensures.bits in let wide = h.wide in omega arith);
    }

pub returns-clause-under : goal.returns-clause-under
returns-clause-under c test passes =
    let h = c.loop-item.invariant in
    subst (λ fs. IsAt c.args.closure.now (among c.args.seed.now) test fs c.loop-item.board) (sym c.new-2.ensures.items)
    (seed_at c.args.closure.now c.args.seed.now test c.loop-item.item-index c.loop-item.board h.wide h.spot c.loop-item-test.false c.requires.items passes)
