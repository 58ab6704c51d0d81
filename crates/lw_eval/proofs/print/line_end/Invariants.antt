use Rattle.std.proofs.Common.{ℕ, ◌≢◌, ◌≤◌, ◌<◌, slice_index}
use Rattle.lw_eval.proofs.print.line_end.Given as goal

-- no line feed stands before this byte
abbrev pub invariant-loop-i : goal.invariant-loop-i
invariant-loop-i l = (k : ℕ) → l.at ≤ k → k < l.i → slice_index l.text k ≢ 10
