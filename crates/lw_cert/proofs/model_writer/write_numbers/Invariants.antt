use Rattle.std.proofs.Common.{◌≡◌, ℕ, List, ◌++◌, take}
use Rattle.lw_cert.specs.Lines.{numbers}
use Rattle.lw_cert.proofs.model_writer.write_numbers.Given as goal

abbrev pub invariant-loop-number : goal.invariant-loop-number
invariant-loop-number l = (after : List ℕ) → l.out.items ++ after ≡ l.fn.out.items ++ numbers (take l.number-index l.all) after
