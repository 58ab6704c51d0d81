use Rattle.std.proofs.Common.{false, get_or, ◌∙◌, sym, refl, below_more, IsTrue, arith}
use Rattle.std.proofs.lemmas.Bool.{false≢true}
use Rattle.std.proofs.lemmas.List.Elements.{Contains-get_or}
use Rattle.lw_model.proofs.TruthRows.{each-Contains}
use Rattle.lw_model.proofs.truth.is_true_at_all.Goals as goal

pub returns-then-not-at : goal.returns-then-not-at
returns-then-not-at c =
    let ws = c.args.worlds.now in
    let i = c.loop-world.world-index in
    (λ e. absurd (false≢true e), λ h. c.if-not-at.ensures ∙ h (get_or ws i 0) (Contains-get_or ws i 0 c.loop-world-test.true))

pub loop-world-preserved : goal.loop-world-preserved
loop-world-preserved c = below_more _ _ c.loop-world.invariant (sym c.if-not-at.ensures)

pub returns : goal.returns
returns c = (λ t. each-Contains (λ w. IsTrue (get_or c.args.of.now w false)) c.args.worlds.now (λ k l. c.loop-world.invariant k (omega arith)), λ h. refl)
