use Rattle.std.proofs.Common.{◌∙◌, refl, ap}
use Rattle.lw_sat.specs.Sets.{sets, adding}
use Rattle.lw_sat.specs.Moves.{listed, needed}
use Rattle.lw_sat.proofs.BoardSpots.{becomes_kept, kept_top, branches_poured, becomes_more}
use Rattle.lw_sat.proofs.board.Board.use_branches.Goals as goal

pub returns : goal.returns
returns c Xs U e =
    let last = kept_top c.args.self.now.used Xs U c.args.self.now.kept e in
    let popped = c.pop.ensures.popped in
    let removed = c.remove_side.ensures in
    becomes_more c.args.self.now _ c.need.new.self _ Xs (adding (needed c.args.rule c.args.item))
    (becomes_kept c.args.self.now _ _ Xs
    (branches_poured c.args.self.now.labels c.remove_side-2.new.rows c.pour.new.into c.args.self.now.used c.remove_side.new.rows U (listed c.args.first) (listed c.args.second) removed c.remove_side-2.ensures c.pour.ensures last.2)
    (ap sets popped ∙ removed.lower ∙ last.1) refl)
    c.need.ensures
