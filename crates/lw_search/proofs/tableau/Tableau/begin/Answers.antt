use Rattle.std.proofs.Common.{◌∷◌, [], refl, arith}
use Rattle.lw_sat.proofs.SaturationCourse.{seed_added}
use Rattle.lw_search.proofs.tableau.Tableau.begin.Goals as goal

pub returns : goal.returns
returns g c = record {
  below = c.new-2.ensures.items;
  frames = c.new-3.ensures.items;
  wide = (let bits = c.add_side.ensures.bits in omega (arith, c.in_ok-board.ensures.wide));
  spot = seed_added (c.args.item ∷ []) 0 c.in_ok-board.board c.add_side.new.self (omega arith) c.in_ok-board.ensures.spot c.add_side.ensures;
  parent = refl;
  fragment = c.new-4.ensures;
}
