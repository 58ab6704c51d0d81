-- How rows of bits lie in words: one row after another, and bit k of a row in its word k / 64.
use Rattle.std.specs.Prelude.{ℕ, ◌+◌, ◌*◌, ◌/◌, ◌%◌, Bool, List, map, nat_eq, slice_index_or}
use Rattle.std.specs.List.{range_with_len}
use Rattle.std.specs.Int.{bit_at}

-- whether a word has its bit of that number, 0 the lowest
abbrev pub has_bit : ℕ → ℕ → Bool
has_bit word k = nat_eq (bit_at word k) 1

-- the bits of that row, in rows of so many words
abbrev pub row_of : ℕ → List ℕ → ℕ → List Bool
row_of width words row = map (λ bit. has_bit (slice_index_or words (row * width + bit / 64) 0) (bit % 64)) (range_with_len 0 (64 * width))

-- so many rows of so many words
abbrev pub rows_of : ℕ → ℕ → List ℕ → List (List Bool)
rows_of width count words = map (row_of width words) (range_with_len 0 count)
