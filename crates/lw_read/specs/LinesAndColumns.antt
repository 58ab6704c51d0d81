-- The line and the column of a byte of a text, both from 1; a line ends with its line feed, and columns count bytes.
use Rattle.std.specs.Prelude.{ℕ, ◌+◌, ◌==◌, not, List, length, count_by, reverse, take}
use Rattle.std.specs.List.{take_while}

-- the line of the byte at this place, from 1: one more than the line feeds before it
abbrev pub line_at : List ℕ → ℕ → ℕ
line_at text at = count_by (λ byte. byte == 10) (take at text) + 1

-- its column, from 1: one more than the bytes between it and the last line feed before it, or the text's beginning
abbrev pub column_at : List ℕ → ℕ → ℕ
column_at text at = length (take_while (λ byte. not (byte == 10)) (reverse (take at text))) + 1
