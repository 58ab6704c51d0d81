use Rattle.std.proofs.Common.{◌≡◌, reverse, take, drop}
use Rattle.lw_cert.proofs.build.taken.Given as goal

abbrev pub invariant-loop : goal.invariant-loop
invariant-loop l = (l.subs.items ≡ take l.counter (reverse l.fn.proofs.items)) × (reverse l.proofs.items ≡ drop l.counter (reverse l.fn.proofs.items))
