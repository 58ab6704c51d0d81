-- The last row, and the rows below it, after a push, a bit and a cut.
use Rattle.std.proofs.Common.{◌≡◌, ℕ, ◌-◌, ◌*◌, ◌<◌, ◌≤◌, Bool, false, List, [], ◌∷◌, ◌++◌, length, get_or, set, take, ap, ◌∙◌, ⊎_elim, arith, length-set}
use Rattle.std.proofs.lemmas.Bool.{cases_lt}
use Rattle.std.proofs.lemmas.List.{length-replicate, get_or_past, length_push, get_or_push, length-take-le, get_or-take, get_or-set_same, get_or-set_other}
use Rattle.std.proofs.lemmas.List.Elements.{All-get_or}
use Rattle.lw_rows.specs.RowStack.{Region, IsRegion, empty_row, last_row, with_bit}

module _ (r : Region) where
  -- the last row has as many bits as its words
  pub length-last_row : IsRegion r → length (last_row r) ≡ 64 * r.width
  length-last_row region =
      ⊎_elim
      (λ (there : length r.rows - 1 < length r.rows). All-get_or (λ row. length row ≡ 64 * r.width) r.rows (length r.rows - 1) (empty_row r.width) there region.equal)
      (λ (none : length r.rows ≤ length r.rows - 1). ap length (get_or_past r.rows (length r.rows - 1) (empty_row r.width) none) ∙ length-replicate (64 * r.width) false)
      (cases_lt (length r.rows - 1) (length r.rows))

  -- after a push the last row is the one that was pushed
  pub last_row-push : (row : List Bool) (spare : ℕ) → last_row (record r { rows = r.rows ++ row ∷ []; spare = spare }) ≡ row
  last_row-push row spare = get_or_push r.rows row (empty_row r.width) (length (r.rows ++ row ∷ []) - 1) (omega (arith, length_push r.rows row))

  -- a bit of the last row is a bit of no other row
  pub last_row-with_bit : (bit : ℕ) (value : Bool) → 1 ≤ length r.rows → last_row (record r { rows = with_bit r bit value }) ≡ set (last_row r) bit value
  last_row-with_bit bit value some =
      ap (λ n. get_or (with_bit r bit value) (n - 1) (empty_row r.width)) (length-set r.rows (length r.rows - 1) (set (last_row r) bit value))
      ∙ get_or-set_same r.rows (length r.rows - 1) (set (last_row r) bit value) (empty_row r.width) (omega arith)

  pub get_or-with_bit : (bit row : ℕ) (value : Bool) (d : List Bool) → row < length r.rows - 1 → get_or (with_bit r bit value) row d ≡ get_or r.rows row d
  get_or-with_bit bit row value d below = get_or-set_other r.rows (length r.rows - 1) row (set (last_row r) bit value) d (λ e. omega arith)

  -- after a cut the last row is the highest that was kept
  pub last_row-take : (n spare : ℕ) → 1 ≤ n → n ≤ length r.rows → last_row (record r { rows = take n r.rows; spare = spare }) ≡ get_or r.rows (n - 1) (empty_row r.width)
  last_row-take n spare some within =
      ap (λ k. get_or (take n r.rows) (k - 1) (empty_row r.width)) (length-take-le n r.rows within)
      ∙ get_or-take n r.rows (n - 1) (empty_row r.width) (omega arith)
