use Rattle.std.specs.Prelude.{ℕ, List, map, string_bytes}
use Rattle.std.specs.declared.alloc.Global.{Global}
use Rattle.std.specs.declared.string.String.{String}
use Rattle.std.specs.declared.vec.Vec.{Vec}
use Rattle.std.specs.Ordering.{nat_cmp}
use Rattle.std.specs.FinMap.{FinMap, from_entries}
use Rattle.lw_io.specs.Files.{Files}

-- a name and its file, as bytes
abbrev pub entry_of : String Global × Vec ℕ Global → List ℕ × List ℕ
entry_of file = (string_bytes file.0, file.1.items)

-- the files of a list of names and files
abbrev pub files_of : List (String Global × Vec ℕ Global) → Files
files_of entries = from_entries (map entry_of entries)

-- what listed writes may keep by their numbers, the newest listing first: that one counts
abbrev pub keeps_of : List (ℕ × ℕ) → FinMap nat_cmp ℕ
keeps_of listed = from_entries listed
