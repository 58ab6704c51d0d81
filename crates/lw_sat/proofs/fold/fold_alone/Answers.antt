use Rattle.std.proofs.Common.{sym, ap, ◌∙◌, arith}
use Rattle.lw_proof.specs.Lean.{steps}
use Rattle.lw_sat.specs.Sets.{top}
use Rattle.lw_sat.specs.Moves.{listed}
use Rattle.lw_sat.proofs.UsedItems.{none_used, rests_alone, rests_as, rests_drop}
use Rattle.lw_sat.proofs.fold.fold_alone.Goals as goal

pub returns-then-not-has_any-clause-rests : goal.returns-then-not-has_any-clause-rests
returns-then-not-has_any-clause-rests c X m r =
    rests_drop c.args.closure.now (listed c.args.side) (top c.args.board.now.labels) X c.args.proof r
    (none_used (top c.args.board.now.labels) (listed c.args.side) (sym c.has_any.ensures ∙ c.if-not-has_any.true))

pub returns-clause-rests : goal.returns-clause-rests
returns-clause-rests c X m r =
    let e = ap (λ a. a.set) c.use_alone.ensures.spot in
    rests_as c.args.closure.now _ _ X _ _ e c.in_ok-whole.ensures
    (rests_alone c.args.closure.now c.args.rule c.args.item (listed c.args.side) (top c.args.board.now.labels) X c.args.proof m r)

pub returns-clause-steps : goal.returns-clause-steps
returns-clause-steps c = let e = ap steps c.in_ok-whole.ensures in omega (arith, e, c.requires.still)
