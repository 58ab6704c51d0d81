use Rattle.std.proofs.Common.{sym, ap, subst, ◌∙◌, arith}
use Rattle.lw_proof.specs.Lean.{steps}
use Rattle.lw_sat.specs.Sets.{top}
use Rattle.lw_sat.specs.Moves.{listed}
use Rattle.lw_sat.specs.Closing.{Rests}
use Rattle.lw_sat.proofs.UsedItems.{none_used, rests_branch, rests_as, rests_drop}
use Rattle.lw_sat.proofs.BoardSpots.{becomes_itself}
use Rattle.lw_sat.proofs.fold.fold_second.Goals as goal

pub returns-then-not-has_any-clause-stays : goal.returns-then-not-has_any-clause-stays
returns-then-not-has_any-clause-stays c Ks U e = becomes_itself _ _ _ Ks (c.forget.ensures Ks U e)

pub returns-then-not-has_any-clause-rests : goal.returns-then-not-has_any-clause-rests
returns-then-not-has_any-clause-rests c Ks U X e m r s =
    let same = ap (λ a. a.set) (c.forget.ensures Ks U e).spot in
    subst (λ V. Rests c.args.closure.now V X c.args.proof) (sym same)
    (rests_drop c.args.closure.now (listed c.args.second) (top c.args.board.now.labels) X c.args.proof s
    (none_used (top c.args.board.now.labels) (listed c.args.second) (sym c.has_any.ensures ∙ c.if-not-has_any.true)))

pub returns-clause-stays : goal.returns-clause-stays
returns-clause-stays c Ks U e = becomes_itself _ _ _ Ks (c.use_branches.ensures Ks U e)

pub returns-clause-rests : goal.returns-clause-rests
returns-clause-rests c Ks U X e m r s =
    let same = ap (λ a. a.set) (c.use_branches.ensures Ks U e).spot in
    rests_as c.args.closure.now _ _ X _ _ same c.in_ok-whole.ensures
    (rests_branch c.args.closure.now c.args.rule c.args.item (listed c.args.first) (listed c.args.second) U (top c.args.board.now.labels) X c.args.first_proof c.args.proof m r s)

pub returns-clause-steps : goal.returns-clause-steps
returns-clause-steps c = let e = ap steps c.in_ok-whole.ensures in omega (arith, e, c.requires.still)
