use Rattle.std.proofs.Common.{◌∙◌, sym, subst}
use Rattle.std.specs.Result.{IfOk}
use Rattle.std.proofs.lemmas.List.Elements.{Contains-get_or}
use Rattle.lw_formula.specs.Formula.{Formula}
use Rattle.lw_pool.specs.Region.{tree_at, IsAt}
use Rattle.lw_fix.specs.FixedPoint.{fix}
use Rattle.lw_fix.specs.Private.Solved.{AreBoxes}
use Rattle.lw_fix.proofs.OutermostFormulas.{at_self}
use Rattle.lw_fix.proofs.BoxImages.{boxes-found}
use Rattle.lw_fix.proofs.construction.construct.Goals as goal

pub defaults-requires : goal.defaults-requires
defaults-requires c = λ k d l. (c.requires.boxes.sound _ (Contains-get_or c.args.boxes.now k d l)).0

pub solve-requires-clause-boxes : goal.solve-requires-clause-boxes
solve-requires-clause-boxes c =
    subst (AreBoxes c.defaults.new.pool c.args.name.now (tree_at c.defaults.new.pool c.args.id)) (sym c.deref.ensures.value)
    (subst (λ (a : Formula). AreBoxes c.defaults.new.pool c.args.name.now a c.in_ok-left.left.items) (sym (c.in_ok-left.ensures.grows.same c.args.id c.requires.id))
    (boxes-found c.args.pool.now c.defaults.new.pool c.args.name.now (tree_at c.args.pool.now c.args.id) c.args.boxes.now c.in_ok-left.left.items
    c.in_ok-left.ensures.grows c.requires.boxes c.in_ok-left.ensures.right c.in_ok-left.ensures.of))

pub returns-clause-at : goal.returns-clause-at
returns-clause-at c =
    subst (λ (a : Formula). IfOk c.solve.result (IsAt c.solve.new.pool (fix c.args.name.now a)))
    (at_self (tree_at c.defaults.new.pool c.args.id) ∙ c.in_ok-left.ensures.grows.same c.args.id c.requires.id)
    c.solve.ensures.at
