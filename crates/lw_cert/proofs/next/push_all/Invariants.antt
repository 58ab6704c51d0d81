use Rattle.std.proofs.Common.{◌≡◌, ◌++◌, reverse, replicate}
use Rattle.lw_cert.proofs.next.push_all.Given as goal

abbrev pub invariant-loop : goal.invariant-loop
invariant-loop l = reverse l.depths.items ≡ replicate l.counter l.depth ++ reverse l.fn.depths.items
