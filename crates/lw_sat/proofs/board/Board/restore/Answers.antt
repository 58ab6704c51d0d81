use Rattle.std.proofs.Common.{◌∙◌, refl, ap}
use Rattle.lw_sat.specs.Sets.{sets, top}
use Rattle.lw_sat.proofs.BoardSpots.{becomes_kept, kept_top, refilled}
use Rattle.lw_sat.proofs.board.Board.restore.Goals as goal

pub returns : goal.returns
returns c Xs U e =
    let last = kept_top c.args.self.now.used Xs U c.args.self.now.kept e in
    let popped = c.pop.ensures.popped in
    becomes_kept c.args.self.now _ U Xs
    (refilled c.args.self.now.labels c.clear.new.rows c.pour.new.into (top c.args.self.now.used) U c.clear.ensures c.pour.ensures last.2)
    (ap sets popped ∙ last.1) refl
