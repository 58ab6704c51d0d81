-- The line of a byte, from that of a byte before it.
use Rattle.std.proofs.Common.{◌≡◌, ℕ, ◌+◌, ◌≤◌, ◌==◌, List, drop, count_by, sum_by, cond, ap, ◌∙◌, arith}
use Rattle.std.proofs.lemmas.List.Sums.{sum_by-append, sum_by-take-drop}
use Rattle.std.proofs.lemmas.List.Folds.{drop_split}
use Rattle.std.specs.List.{slice_range}
use Rattle.lw_read.specs.LinesAndColumns.{line_at}

pub line_ahead : (text : List ℕ) (from at : ℕ) → from ≤ at → line_at text from + count_by (λ byte. byte == 10) (slice_range text from at) ≡ line_at text at
line_ahead text from at order =
    let feed : ℕ → ℕ = λ byte. cond (byte == 10) 1 0 in
    let near = sum_by-take-drop feed text from in
    let far = sum_by-take-drop feed text at in
    let split : sum_by feed (drop from text) ≡ sum_by feed (slice_range text from at) + sum_by feed (drop at text) =
    ap (sum_by feed) (drop_split text from at order) ∙ sum_by-append feed (slice_range text from at) (drop at text) in
    omega arith
