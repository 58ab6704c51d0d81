use Rattle.std.proofs.Common.{◌≡◌, false, get_or, ◌∙◌, sym, refl, below_more, arith}
use Rattle.std.proofs.lemmas.Bool.{false≢true}
use Rattle.std.proofs.lemmas.List.Elements.{Contains-get_or}
use Rattle.lw_model.proofs.TruthRows.{each-Contains}
use Rattle.lw_model.proofs.truth.is_true_at_some.Goals as goal

pub returns-then-at : goal.returns-then-at
returns-then-at c =
    let ws = c.args.worlds.now in
    let i = c.loop-world.world-index in
    (λ t. (get_or ws i 0, Contains-get_or ws i 0 c.loop-world-test.true, sym c.if-at.ensures), λ h. refl)

pub loop-world-preserved : goal.loop-world-preserved
loop-world-preserved c = below_more _ _ c.loop-world.invariant (sym c.if-at.ensures)

pub returns : goal.returns
returns c =
    let none = each-Contains (λ w. get_or c.args.of.now w false ≡ false) c.args.worlds.now (λ k l. c.loop-world.invariant k (omega arith)) in
    (λ e. absurd (false≢true e), λ some. sym (none some.0 some.1) ∙ some.2)
