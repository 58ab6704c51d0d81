use Rattle.std.proofs.Common.{◌≡◌, ℕ, ◌+◌, ◌-◌, ◌*◌, drop, fold}
use Rattle.lw_read.specs.Tokens.{decimal}
use Rattle.lw_ast.proofs.word.decimal.Given as goal

abbrev pub invariant-loop-byte : goal.invariant-loop-byte
invariant-loop-byte l = fold (λ (n b : ℕ). n * 10 + (b - 48)) l.value (drop l.byte-index l.digits) ≡ decimal l.digits
