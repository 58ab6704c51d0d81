-- Tables whose sets are given by ids of a pool.
use Rattle.std.specs.Prelude.{ℕ, All, List, [], map}
use Rattle.std.specs.List.{slice_index_or}
use Rattle.lw_formula.specs.declared.sign.Sign.TheVariants.{F}
use Rattle.lw_formula.specs.Formula.{Formula}
use Rattle.lw_formula.specs.Signed.{Signed}
use Rattle.lw_pool.specs.declared.id.SignedId.{SignedId}
use Rattle.lw_pool.specs.Region.{IsLive, signed_at}
use Rattle.lw_proof.specs.declared.rule.Rule.{Rule}
use Rattle.lw_sets.specs.IdSets.{AreLive}
use Rattle.lw_share.specs.Lines.{Line, map_line}

-- the line with this number, where what is no line has no members
abbrev pub line_of : List (Line SignedId) → ℕ → Line SignedId
line_of table i =
    slice_index_or table i
    (record { members = []; rule = Rule.Close; principal = record { sign = F; form = record { 0 = 0 } }; cites = [] })

-- the line with the signed formulas of its ids
abbrev pub line_at : List Formula → Line SignedId → Line Signed
line_at ts line = map_line (signed_at ts) line

-- the table with the signed formulas of its ids
abbrev pub table_at : List Formula → List (Line SignedId) → List (Line Signed)
table_at ts table = map (line_at ts) table

-- the pool has each id of the line
abbrev pub IsLineLive : List Formula → Line SignedId → Type 0
IsLineLive ts line = AreLive ts line.members × IsLive ts line.principal.form

-- the pool has each id of the table
abbrev pub IsTableLive : List Formula → List (Line SignedId) → Type 0
IsTableLive ts table = All (IsLineLive ts) table
