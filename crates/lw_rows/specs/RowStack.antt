use Rattle.std.specs.Prelude.{◌≡◌, ℕ, ◌-◌, ◌*◌, ◌≤◌, Bool, false, List, [], length, All, replicate, slice_index_or, slice_set, refl}
use Rattle.std.specs.Coded.{Coded, code_by, coded×, coded_list, coded_bool, coded_ℕ}

-- a stack of rows of bits: how many words of 64 bits a row has, the rows from the lowest to the last, each the list of its bits from bit 0 on, and how many rows may still be pushed
pub record Region : Type 0 where
  pub width : ℕ
  pub rows : List (List Bool)
  pub spare : ℕ

-- such a stack is stored as the tuple of its fields
abbrev pub region_code : Coded Region
region_code =
    code_by (ℕ × (List (List Bool) × ℕ)) (coded× coded_ℕ (coded× (coded_list (coded_list coded_bool)) coded_ℕ))
    (λ r. (r.width, (r.rows, r.spare))) (λ p. record { width = p.0; rows = p.1.0; spare = p.1.1 }) (λ _. refl)

-- a row has from 1 to 64 words, and each row has the bits of as many words
pub record IsRegion (r : Region) : Type 0 where
  pub at_least_one : 1 ≤ r.width
  pub at_most_64 : r.width ≤ 64
  pub equal : All (λ row. length row ≡ 64 * r.width) r.rows

-- a row of so many words without a bit
abbrev pub empty_row : ℕ → List Bool
empty_row width = replicate (64 * width) false

-- the last row, or an empty row where there is none
abbrev pub last_row : Region → List Bool
last_row r = slice_index_or r.rows (length r.rows - 1) (empty_row r.width)

-- whether that row has that bit
abbrev pub bit_in : Region → ℕ → ℕ → Bool
bit_in r row bit = slice_index_or (slice_index_or r.rows row []) bit false

-- the rows with that bit of the last one made so, and all other bits as before
abbrev pub with_bit : Region → ℕ → Bool → List (List Bool)
with_bit r bit value = slice_set r.rows (length r.rows - 1) (slice_set (last_row r) bit value)
