use Rattle.lw_pool.specs.Region.{IsLive, Grows}
use Rattle.lw_cases.proofs.pools.doubled.Given as goal

abbrev pub invariant-times : goal.invariant-times
invariant-times l = IsLive l.pool l.form × Grows l.fn.pool l.pool
