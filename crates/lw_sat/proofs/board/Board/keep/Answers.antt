use Rattle.std.proofs.Common.{◌++◌, ◌∷◌, [], ◌∙◌, refl, ap}
use Rattle.lw_sat.specs.Sets.{sets, top}
use Rattle.lw_sat.proofs.BoardSpots.{becomes_kept, pushed_full, unchanged}
use Rattle.lw_sat.proofs.board.Board.keep.Goals as goal

pub returns : goal.returns
returns c =
    let reserved = c.in_ok-reserve.ensures.ok in
    let pushed = c.push_empty.ensures.pushed in
    becomes_kept c.args.self.now _ _ _ (unchanged c.args.self.now.labels c.args.self.now.label)
    (pushed_full c.reserve.new.self c.push_empty.new.self c.pour.new.into (top c.args.self.now.labels) _ pushed c.pour.ensures ∙ ap (λ r. sets r ++ top c.args.self.now.labels ∷ []) reserved) refl
