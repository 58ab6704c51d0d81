use Rattle.std.proofs.Common.{◌≡◌, ◌-◌, ◌+◌, ℕ, arith, length, take, ap₂, ◌∙◌}
use Rattle.lw_rows.proofs.StoredRows.{seen_count}
use Rattle.lw_rows.proofs.rows.Rows.pop.Goals as goal

pub release-requires : goal.release-requires
release-requires c = omega (arith, seen_count _ _ _ _ _ c.self.view_is)

pub returns-clause-popped : goal.returns-clause-popped
returns-clause-popped c =
    let count : c.self.inside.count ≡ length c.args.self.now.rows = seen_count _ _ _ _ _ c.self.view_is in
    let one : length c.args.self.now.rows - (c.self.inside.count - 1) ≡ 1 = omega arith in
    c.release.ensures.released ∙ ap₂ (λ (k n : ℕ). record c.args.self.now { rows = take (n - 1) c.args.self.now.rows; spare = c.args.self.now.spare + k }) one count
