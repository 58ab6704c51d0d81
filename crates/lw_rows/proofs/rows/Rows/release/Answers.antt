use Rattle.std.proofs.Common.{◌≡◌, ◌+◌, ◌-◌, ◌*◌, ◌≤◌, ℕ, arith, length, take, ap, ◌∙◌}
use Rattle.std.proofs.lemmas.Nat.{mul-le}
use Rattle.lw_rows.proofs.RowPlaces.{length-cut, cut_frees}
use Rattle.lw_rows.proofs.StoredRows.{seen_count, seen_take, seen_is_region}
use Rattle.lw_rows.proofs.rows.Rows.release.Goals as goal

pub overflow_mul-mark-inside : goal.overflow_mul-mark-inside
overflow_mul-mark-inside c =
    let within : c.mark.inside.count ≤ c.self.inside.count = omega (arith, seen_count _ _ _ _ _ c.self.view_is) in
    omega (arith, mul-le c.mark.inside.count c.self.inside.width c.self.inside.count c.self.inside.width within (omega arith))

pub overflow_sub-self : goal.overflow_sub-self
overflow_sub-self c = omega (arith, seen_count _ _ _ _ _ c.self.view_is)

pub invariant_of-self : goal.invariant_of-self
invariant_of-self c =
    let within : c.mark.inside.count ≤ c.self.inside.count = omega (arith, seen_count _ _ _ _ _ c.self.view_is) in
    let long : length c.truncate.new.self.items ≡ c.mark.inside.count * c.self.inside.width = ap length c.truncate.ensures.items ∙ length-cut c.self.inside.width c.self.inside.count c.mark.inside.count c.self.inside.words.items within c.self.invariant.2 in
    (c.self.invariant.0, c.self.invariant.1, long, omega (arith, cut_frees c.self.inside.width c.self.inside.count c.mark.inside.count c.self.inside.spare within))

pub returns-clause-released : goal.returns-clause-released
returns-clause-released c =
    let within : c.mark.inside.count ≤ c.self.inside.count = omega (arith, seen_count _ _ _ _ _ c.self.view_is) in
    seen_take _ _ _ _ _ c.self.view_is c.mark.inside.count _ within c.truncate.ensures.items
    ∙ ap (λ (n : ℕ). record c.args.self.now { rows = take n c.args.self.now.rows; spare = c.args.self.now.spare + (length c.args.self.now.rows - n) }) c.mark.view_is

pub returns-clause-region : goal.returns-clause-region
returns-clause-region c = seen_is_region _ _ _ _ c.self.invariant.0 c.self.invariant.1
