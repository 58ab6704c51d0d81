-- How long a file may be.
use Rattle.std.specs.Prelude.{ℕ}

-- the greatest number of bytes of a file that is read
abbrev pub file_limit : ℕ
file_limit = 1048576
