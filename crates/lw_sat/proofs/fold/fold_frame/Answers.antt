use Rattle.std.proofs.Common.{subst}
use Rattle.lw_sat.specs.SeedPath.{Link}
use Rattle.lw_sat.proofs.FoldedPremises.{first_folds}
use Rattle.lw_sat.proofs.fold.fold_frame.Goals as goal

pub returns-in_ok-folded-in-First-clause-folded : goal.returns-in_ok-folded-in-First-clause-folded
returns-in_ok-folded-in-First-clause-folded c test a b l h =
    first_folds c.args.closure.now test a b c.in-First.rule c.in-First.item c.in-First.first c.in-First.second c.args.board.now c.fold_first.new.board c.args.proof c.requires.wide h
    (subst (λ f. Link c.args.closure.now test a f b) c.in-First.is l) c.in_ok-folded-in-First.folded c.in_ok-folded-in-First.ensures
