-- Rows of truth values: at each place the value at the height of this number.
use Rattle.std.specs.Prelude.{ℕ, Bool, false, not, List, length, map, take}
use Rattle.std.specs.Bool.{beq}
use Rattle.std.specs.List.{filter, list_all, list_any, enumerate_from, slice_index_or}
use Rattle.lw_formula.specs.Formula.{Formula}
use Rattle.lw_trace.specs.LetterlessTruth.{holds_at, heights_below, TruthByHeight}

-- the truth values of the formula at the heights below n
abbrev pub truth_row : Formula → ℕ → List Bool
truth_row a n = map (holds_at a) (heights_below n)

-- at each place, whether all values before it are true
abbrev pub all_before : List Bool → List Bool
all_before row = map (λ k. list_all (λ b. b) (take k row)) (heights_below (length row))

-- at each place, whether some value before it is true
abbrev pub some_before : List Bool → List Bool
some_before row = map (λ k. list_any (λ b. b) (take k row)) (heights_below (length row))

-- the places of the row, ascending, at which the value isn't this one
abbrev pub places_apart : List Bool → Bool → List ℕ
places_apart row value = map (λ p. p.0) (filter (λ p. not (beq p.1 value)) (enumerate_from 0 row))

-- the value at the place, and the places at which it is the other one
abbrev pub read_off : List Bool → ℕ → TruthByHeight
read_off row at = record { rest = slice_index_or row at false; heights = places_apart row (slice_index_or row at false) }
