use Rattle.std.proofs.Common.{◌≡◌, ◌∙◌}
use Rattle.lw_formula.specs.Truth.{true_at}
use Rattle.lw_formula.proofs.TruthTest.{true_at-IsTrueAt}
use Rattle.lw_pool.specs.Region.{tree_at}
use Rattle.lw_model.proofs.truth.holds.Goals as goal

pub returns : goal.returns
returns c =
    let m = c.args.model.now in
    let a = tree_at c.args.pool.now c.args.id in
    let answer : c.at.result ≡ true_at m c.args.world a = c.at.ensures ∙ c.in_ok-row.ensures.right.exact c.args.world c.requires.world in
    rw answer (true_at-IsTrueAt m c.args.world a)
