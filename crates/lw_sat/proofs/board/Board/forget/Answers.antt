use Rattle.std.proofs.Common.{◌∙◌, refl, ap}
use Rattle.lw_sat.specs.Sets.{sets}
use Rattle.lw_sat.proofs.BoardSpots.{becomes_kept, kept_top, unchanged}
use Rattle.lw_sat.proofs.board.Board.forget.Goals as goal

pub returns : goal.returns
returns c Xs U e =
    let last = kept_top c.args.self.now.used Xs U c.args.self.now.kept e in
    let popped = c.pop.ensures.popped in
    becomes_kept c.args.self.now _ _ Xs (unchanged c.args.self.now.labels c.args.self.now.label) (ap sets popped ∙ last.1) refl
