use Rattle.std.proofs.Common.{refl, ap}
use Rattle.lw_sat.proofs.RowsAsSets.{after_pop}
use Rattle.lw_sat.proofs.BoardSpots.{same_spot}
use Rattle.lw_sat.proofs.board.Board.go_back.Goals as goal

pub returns : goal.returns
returns c Xs X e =
    let popped = c.pop.ensures.popped in
    let left = after_pop c.args.self.now.labels c.pop.new.self Xs X e (ap (λ r. r.rows) popped) c.pop.ensures.region in
    record {
      spot = same_spot _ _ _ _ _ _ left.2 left.1 refl;
      bits = refl;
    }
